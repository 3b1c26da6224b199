-- The part at the front of some bytes is determined.
use Rattle.std.proofs.Common.{◌≡◌, ℕ, ◌+◌, ◌-◌, ◌^◌, ◌<◌, ◌≤◌, Bool, true, false, cond, List, [], ◌∷◌, ◌++◌, length, get_or, take, drop, decimal, sym, refl, ap, ◌∙◌, subst, add-zero, arith, Bor, ◌≢◌, Option, Some, None, MatchOption, not}
use Rattle.std.specs.Bool.{then_some}
use Rattle.std.proofs.lemmas.List.{take_rest}
use Rattle.std.proofs.lemmas.Fmt.{decimal_nonempty, digits_decimal, decimal_injective}
use Rattle.std.proofs.lemmas.Bool.{true≢false}
use Rattle.std.specs.Int.{IsInRange}
use Rattle.std.specs.List.{AllByRecursion}
use Rattle.sheet_text.specs.declared.token.Token.{Token}
use Rattle.sheet_text.specs.Parts.{Part, opening, closing, word, numeral, ending, written, is_opening, is_spaced, gap, onward}
use Rattle.sheet_text.specs.Cuts.{Good, part, Stops, Ends, Cut, NoCut, FirstOf}
use Rattle.sheet_text.proofs.Runs.{run_unique, own}

-- the bytes that a part can begin with
abbrev pub low : Part → ℕ
low opening = 40
low closing = 41
low (word w) = 97
low (numeral n) = 48
low ending = 10

abbrev pub high : Part → ℕ
high opening = 40
high closing = 41
high (word w) = 122
high (numeral n) = 57
high ending = 10

-- a part has a first byte, and it is one of these
run_first : (lo hi : ℕ) (ds r : List ℕ) → 0 < length ds → AllByRecursion (IsInRange lo hi) ds → (b : ℕ) × ((bs : List ℕ) × (ds ++ r ≡ b ∷ bs)) × IsInRange lo hi b
run_first lo hi [] r some all = absurd (omega arith)
run_first lo hi (d ∷ ds) r some all = (d, (ds ++ r, refl), all.0)

pub first_in : (p : Part) (r : List ℕ) → Good p → (b : ℕ) × ((bs : List ℕ) × (written p ++ r ≡ b ∷ bs)) × IsInRange (low p) (high p) b
first_in opening r g = (40, (r, refl), (omega arith, omega arith))
first_in closing r g = (41, (r, refl), (omega arith, omega arith))
first_in (word w) r g = run_first 97 122 w r g.0 g.1
first_in (numeral n) r g = run_first 48 57 (decimal n) r (decimal_nonempty n (omega arith)) (digits_decimal own n (omega arith))
first_in ending r g = (10, (r, refl), (omega arith, omega arith))

head_same : (b c : ℕ) (bs cs : List ℕ) → b ∷ bs ≡ c ∷ cs → b ≡ c
head_same b c bs cs e = cc

tail_same : (b c : ℕ) (bs cs : List ℕ) → b ∷ bs ≡ c ∷ cs → bs ≡ cs
tail_same b c bs cs e = cc

-- parts whose first bytes are apart are not written alike
clash : (p q : Part) (r r' : List ℕ) → Good p → Good q → written p ++ r ≡ written q ++ r' → (low p ≤ high q → low q ≤ high p → ⊥) → ⊥
clash p q r r' g h e apart =
    let x = first_in p r g in
    let y = first_in q r' h in
    let same = head_same x.0 y.0 x.1.0 y.1.0 (sym x.1.1 ∙ e ∙ y.1.1) in
    apart (omega (arith, x.2.0, y.2.1)) (omega (arith, x.2.1, y.2.0))

-- a part and what follows it are determined by their bytes
same_part : (p q : Part) (r r' : List ℕ) → Good p → Good q → Ends p r → Ends q r' → written p ++ r ≡ written q ++ r' → (p ≡ q) × (r ≡ r')
same_part opening opening r r' g h s t e = (refl, tail_same _ _ r r' e)
same_part closing closing r r' g h s t e = (refl, tail_same _ _ r r' e)
same_part (word w) (word v) r r' g h s t e = let u = run_unique 97 122 w v r r' g.1 h.1 s t e in (ap word u.0, u.1)
same_part (numeral n) (numeral m) r r' g h s t e = let u = run_unique 48 57 (decimal n) (decimal m) r r' (digits_decimal own n (omega arith)) (digits_decimal own m (omega arith)) s t e in (ap numeral (decimal_injective n m (omega arith) (omega arith) u.0), u.1)
same_part ending ending r r' g h s t e = (refl, tail_same _ _ r r' e)
same_part p q r r' g h s t e = absurd (clash p q r r' g h e (λ a b. omega (arith, a, b)))

-- no part begins with this byte
pub record Foreign (b : ℕ) : Type 0 where
  pub opens : b ≢ 40
  pub closes : b ≢ 41
  pub ends : b ≢ 10
  pub digit : IsInRange 48 57 b → ⊥
  pub letter : IsInRange 97 122 b → ⊥

-- and no part's range holds it
foreign_to : (b : ℕ) → Foreign b → (p : Part) → IsInRange (low p) (high p) b → ⊥
foreign_to b f opening i = f.opens (omega (arith, i.0, i.1))
foreign_to b f closing i = f.closes (omega (arith, i.0, i.1))
foreign_to b f (word w) i = f.letter i
foreign_to b f (numeral n) i = f.digit i
foreign_to b f ending i = f.ends (omega (arith, i.0, i.1))

-- bytes that begin with a part begin with a byte of its range
first_byte : (s : List ℕ) (p : Part) (rest : List ℕ) → Good p → s ≡ written p ++ rest → (0 < length s) × IsInRange (low p) (high p) (get_or s 0 0)
first_byte s p rest g e =
    let x = first_in p rest g in
    let whole : s ≡ x.0 ∷ x.1.0 = e ∙ x.1.1 in
    (omega (arith, ap length whole), subst (IsInRange (low p) (high p)) (sym (ap (λ (l : List ℕ). get_or l 0 0) whole)) x.2)

-- for `token`, where the first byte begins no part
pub no_cut_at : (s : List ℕ) → (0 < length s → Foreign (get_or s 0 0)) → NoCut true s
no_cut_at s foreign p rest g ends e =
    let first = first_byte s p rest g e in
    foreign_to _ (foreign first.0) p first.1

-- and where the digits at the front are no number's decimal form
pub no_cut_number : (s ds rest : List ℕ) → IsInRange 48 57 (get_or s 0 0) → s ≡ ds ++ rest → AllByRecursion (IsInRange 48 57) ds → Stops 48 57 rest → ((n : ℕ) → n < 2 ^ 32 → ds ≢ decimal n) → NoCut true s
no_cut_number s ds rest i whole all stops none (numeral n) r g ends e = none n g (run_unique 48 57 ds (decimal n) rest r all (digits_decimal own n (omega arith)) stops ends (sym whole ∙ e)).0
no_cut_number s ds rest i whole all stops none p r g ends e = let f = (first_byte s p r g e).1 in omega (arith, f.0, f.1, i.0, i.1)

-- where a part before calls for a blank, the gap is a blank or nothing
due : (p : Part) (b : Bool) → is_spaced p ≡ b → gap false p ≡ cond b (32 ∷ []) []
due p b e = ap (λ (x : Bool). cond x (32 ∷ []) []) e

-- at a blank, the next part is one that a blank sets off
after_blank : (s s₁ : List ℕ) → s ≡ 32 ∷ s₁ → (p : Part) (rest : List ℕ) → s ≡ gap false p ++ (written p ++ rest) → (is_spaced p ≡ true) × (s₁ ≡ written p ++ rest)
after_blank s s₁ is closing rest e = absurd (let z = head_same 32 41 _ _ (sym is ∙ e) in omega arith)
after_blank s s₁ is ending rest e = absurd (let z = head_same 32 10 _ _ (sym is ∙ e) in omega arith)
after_blank s s₁ is p rest e = (refl, tail_same 32 32 _ _ (sym is ∙ e))

-- at any other byte, it is one that none sets off
with_no_blank : (s : List ℕ) → (get_or s 0 0 ≡ 32 → ⊥) → (p : Part) (rest : List ℕ) → s ≡ gap false p ++ (written p ++ rest) → (is_spaced p ≡ false) × (s ≡ written p ++ rest)
with_no_blank s other closing rest e = (refl, e)
with_no_blank s other ending rest e = (refl, e)
with_no_blank s other p rest e = absurd (other (ap (λ (xs : List ℕ). get_or xs 0 0) e))

-- what is kept of r's part: all of it where the test is true of it
abbrev pub Keeps : (Part → Bool) → Option (Token × Bor (List ℕ)) → Option (Token × Bor (List ℕ)) → Type 0
Keeps test r o = MatchOption r (o ≡ None) (λ x. o ≡ then_some (test (part x.0)) x)

-- where s can begin with nothing but what t does, and t is not of the kind that is due
no_other : (s : List ℕ) (s₁ : List ℕ) (at : ℕ) (t : Token) (r : List ℕ) (b : Bool) → Cut true s₁ at t r → ((p : Part) (rest : List ℕ) → s ≡ gap false p ++ (written p ++ rest) → (is_spaced p ≡ b) × (s₁ ≡ written p ++ rest)) → (is_spaced (part t) ≡ b → ⊥) → NoCut false s
no_other s s₁ at t r b cut here other p rest g ends e =
    let x = here p rest e in
    let same = (same_part p (part t) rest r g cut.good ends cut.ends (sym x.1 ∙ cut.whole)).0 in
    other (sym (ap is_spaced same) ∙ x.0)

-- after a blank, a part is kept just where a blank sets it off
blank_cut : (s s₁ : List ℕ) (at : ℕ) (x : Token × Bor (List ℕ)) (o : Option (Token × Bor (List ℕ))) (b : Bool) → s ≡ 32 ∷ s₁ → Cut true s₁ (at + 1) x.0 x.1.now → is_spaced (part x.0) ≡ b → o ≡ then_some b x → FirstOf false s at o
blank_cut s s₁ at x o true is cut spaced kept = rw kept (record {
  whole = is ∙ ap (λ (l : List ℕ). 32 ∷ l) cut.whole ∙ ap (λ (b : List ℕ). b ++ (written (part x.0) ++ x.1.now)) (sym (due (part x.0) true spaced));
  good = cut.good;
  ends = cut.ends;
  starts = cut.starts ∙ add-zero (at + 1) ∙ ap (λ (b : List ℕ). at + length b) (sym (due (part x.0) true spaced));
  same = cut.same;
})
blank_cut s s₁ at x o false is cut spaced kept = rw kept (no_other s s₁ (at + 1) x.0 x.1.now true cut (after_blank s s₁ is) (λ e. true≢false (sym e ∙ spaced)))

-- and elsewhere, just where none does
plain_cut : (s : List ℕ) (at : ℕ) (x : Token × Bor (List ℕ)) (o : Option (Token × Bor (List ℕ))) (b : Bool) → (get_or s 0 0 ≡ 32 → ⊥) → Cut true s at x.0 x.1.now → is_spaced (part x.0) ≡ b → o ≡ then_some (not b) x → FirstOf false s at o
plain_cut s at x o true other cut spaced kept = rw kept (no_other s s at x.0 x.1.now false cut (with_no_blank s other) (λ e. true≢false (sym spaced ∙ e)))
plain_cut s at x o false other cut spaced kept = rw kept (record {
  whole = cut.whole ∙ ap (λ (b : List ℕ). b ++ (written (part x.0) ++ x.1.now)) (sym (due (part x.0) false spaced));
  good = cut.good;
  ends = cut.ends;
  starts = cut.starts ∙ ap (λ (b : List ℕ). at + length b) (sym (due (part x.0) false spaced));
  same = cut.same;
})

-- a slice that begins with a byte is the byte and the rest
pub starts_with : (s : List ℕ) (b : ℕ) → 1 ≤ length s → get_or s 0 0 ≡ b → s ≡ b ∷ take (length s - 1) (drop 1 s)
starts_with [] b some is = absurd (omega arith)
starts_with (x ∷ s) b some is = ap (λ (y : ℕ). y ∷ s) is ∙ ap (λ (r : List ℕ). b ∷ r) (sym (take_rest (x ∷ s) 1))

-- for `front`, where a blank is due and stands
pub front_spaced : (s s₁ : List ℕ) (at : ℕ) (r o : Option (Token × Bor (List ℕ))) → s ≡ 32 ∷ s₁ → FirstOf true s₁ (at + 1) r → Keeps is_spaced r o → FirstOf false s at o
front_spaced s s₁ at None o is none kept = rw kept (λ p rest g ends e. none p rest g ends (after_blank s s₁ is p rest e).1)
front_spaced s s₁ at (Some x) o is cut kept = blank_cut s s₁ at x o (is_spaced (part x.0)) is cut refl kept

-- and where it does not
pub front_unspaced : (s : List ℕ) (at : ℕ) (r o : Option (Token × Bor (List ℕ))) → (get_or s 0 0 ≡ 32 → ⊥) → FirstOf true s at r → Keeps (λ p. not (is_spaced p)) r o → FirstOf false s at o
front_unspaced s at None o other none kept = rw kept (λ p rest g ends e. none p rest g ends (with_no_blank s other p rest e).1)
front_unspaced s at (Some x) o other cut kept = plain_cut s at x o (is_spaced (part x.0)) other cut refl kept

-- the next part of a line is determined
pub same_next : (tight : Bool) (p q : Part) (r r' : List ℕ) → Good p → Good q → Ends p r → Ends q r' → gap tight p ++ (written p ++ r) ≡ gap tight q ++ (written q ++ r') → (p ≡ q) × (r ≡ r')
same_next true p q r r' g h s t e = same_part p q r r' g h s t e
same_next false opening q r r' g h s t e = same_part opening q r r' g h s t (after_blank _ _ (sym e) q r' refl).1
same_next false closing q r r' g h s t e = same_part closing q r r' g h s t (with_no_blank (41 ∷ r) (λ z. omega arith) q r' e).1
same_next false (word w) q r r' g h s t e = same_part (word w) q r r' g h s t (after_blank _ _ (sym e) q r' refl).1
same_next false (numeral n) q r r' g h s t e = same_part (numeral n) q r r' g h s t (after_blank _ _ (sym e) q r' refl).1
same_next false ending q r r' g h s t e = same_part ending q r r' g h s t (with_no_blank (10 ∷ r) (λ z. omega arith) q r' e).1

-- what follows a part in a line does not lengthen it
onward_stops : (lo hi : ℕ) → 41 < lo → (ps : List Part) → Stops lo hi (onward false ps)
onward_stops lo hi l [] = tt
onward_stops lo hi l (opening ∷ ps) = λ i. omega (arith, i.0)
onward_stops lo hi l (closing ∷ ps) = λ i. omega (arith, i.0)
onward_stops lo hi l (word w ∷ ps) = λ i. omega (arith, i.0)
onward_stops lo hi l (numeral n ∷ ps) = λ i. omega (arith, i.0)
onward_stops lo hi l (ending ∷ ps) = λ i. omega (arith, i.0)

pub onward_ends : (p : Part) (ps : List Part) → Ends p (onward (is_opening p) ps)
onward_ends (word w) ps = onward_stops 97 122 (omega arith) ps
onward_ends (numeral n) ps = onward_stops 48 57 (omega arith) ps
onward_ends p ps = tt
