-- One step of a cursor along its line.
use Rattle.std.proofs.Common.{◌≡◌, ℕ, ◌+◌, ◌-◌, ◌≤◌, Bool, true, leb, List, [], ◌++◌, length, take, drop, sym, ap, ◌∙◌, subst, append_assoc, arith, length-append, length-drop, take-append-drop, le-leb, leb-true, false, Option, Some, None, MatchOption, Decides, ◌∷◌}
use Rattle.std.proofs.lemmas.Bool.{true≢false}
use Rattle.std.proofs.lemmas.List.{drop_all, drop_at, take_at, length-take-le}
use Rattle.sheet_text.specs.declared.cursor.Cursor.{Cursor}
use Rattle.sheet_text.specs.declared.token.Token.{Token}
use Rattle.sheet_text.specs.Parts.{Part, closing, ending, written, is_opening, gap, onward}
use Rattle.sheet_text.specs.Cuts.{part, place, bytes, Cut, NoCut}
use Rattle.sheet_text.specs.Steps.{Left, Next, NotNext, Past, Stands}
use Rattle.sheet_text.proofs.Cuts.{first_in, same_next, onward_ends}

-- no part is left: past the line's end, or where none can be cut
pub none_past_end : (c : Cursor) → length c.line.now ≤ c.at → (p : Part) → NotNext c p
none_past_end c past p ps left =
    omega (arith, ap length (sym (drop_all c.at c.line.now past) ∙ left.here), length-append (gap c.tight p) (written p ++ onward (is_opening p) ps), ap length (first_in p (onward (is_opening p) ps) left.goods.0).1.1)

pub none_here : (c : Cursor) (s : List ℕ) → s ≡ drop c.at c.line.now → NoCut c.tight s → (p : Part) → NotNext c p
none_here c s is none p ps left = none p (onward (is_opening p) ps) left.goods.0 (onward_ends p ps) (is ∙ left.here)

-- the line up to a part, the part, and the rest
split_cut : (line : List ℕ) (at : ℕ) (tight : Bool) (t : Token) (rest : List ℕ) → at ≤ length line → Cut tight (drop at line) at t rest → (front : List ℕ) × (length front ≡ place t) × (line ≡ front ++ (written (part t) ++ rest))
split_cut line at tight t rest inside cut =
    let g = gap tight (part t) in (
      take at line ++ g,
      length-append (take at line) g ∙ ap (λ (n : ℕ). n + length g) (length-take-le at line inside) ∙ sym cut.starts,
      sym (take-append-drop at line) ∙ ap (λ (l : List ℕ). take at line ++ l) cut.whole ∙ sym (append_assoc (take at line) g (written (part t) ++ rest)),
    )

-- the rest is what is left past the part
rest_left : (line : List ℕ) (at : ℕ) (tight : Bool) (t : Token) (rest : List ℕ) → at ≤ length line → Cut tight (drop at line) at t rest → drop (length line - length rest) line ≡ rest
rest_left line at tight t rest inside cut =
    let x = split_cut line at tight t rest inside cut in
    let whole : line ≡ (x.0 ++ written (part t)) ++ rest = x.2 ∙ sym (append_assoc x.0 (written (part t)) rest) in
    let k = length line - length rest in
    let long : length (x.0 ++ written (part t)) ≡ k = omega (arith, ap length whole, length-append (x.0 ++ written (part t)) rest) in
    ap (drop k) whole ∙ drop_at (x.0 ++ written (part t)) rest k long

-- the token's bytes stand in the line
stands_in : (line : List ℕ) (at : ℕ) (tight : Bool) (t : Token) (rest : List ℕ) → at ≤ length line → Cut tight (drop at line) at t rest → Stands line t
stands_in line at tight t rest inside cut =
    let x = split_cut line at tight t rest inside cut in
    let seen : drop (place t) line ≡ written (part t) ++ rest = ap (drop (place t)) x.2 ∙ drop_at x.0 (written (part t) ++ rest) (place t) x.1 in
    record {
      same = cut.same;
      there = ap (take (length (bytes t))) seen ∙ take_at (written (part t)) rest (length (bytes t)) (ap length (sym cut.same)) ∙ sym cut.same;
    }

-- the part that is cut is next, in both directions
next_is : (c d : Cursor) (t : Token) (rest : List ℕ) → Cut c.tight (drop c.at c.line.now) c.at t rest → drop d.at d.line.now ≡ rest → d.tight ≡ is_opening (part t) → Next c (part t) d
next_is c d t rest cut there tight =
    record {
      good = cut.good;
      to = λ ps left. record {
        here = cut.whole ∙ ap (λ (l : List ℕ). gap c.tight (part t) ++ (written (part t) ++ l)) (sym there ∙ left.here ∙ ap (λ (b : Bool). onward b ps) tight);
        goods = (cut.good, left.goods);
      };
      from = λ q ps left.
          let same = same_next c.tight q (part t) (onward (is_opening q) ps) rest left.goods.0 cut.good (onward_ends q ps) cut.ends (sym left.here ∙ cut.whole) in
          (same.0, record { here = there ∙ sym same.1 ∙ ap (λ (x : Part). onward (is_opening x) ps) same.0 ∙ ap (λ (b : Bool). onward b ps) (sym tight); goods = left.goods.1 });
    }

-- for `Cursor::next`
pub walked : (c d : Cursor) (s : List ℕ) (t : Token) (rest : List ℕ) → s ≡ drop c.at c.line.now → c.at ≤ length c.line.now → Cut c.tight s c.at t rest → d.line.now ≡ c.line.now → d.at ≡ length c.line.now - length rest → d.tight ≡ is_opening (part t) → Next c (part t) d × Stands c.line.now t
walked c d s t rest is inside cut₀ same at tight =
    let line = c.line.now in
    let cut = subst (λ (l : List ℕ). Cut c.tight l c.at t rest) is cut₀ in (
      next_is c d t rest cut (ap (drop d.at) same ∙ ap (λ (k : ℕ). drop k line) at ∙ rest_left line c.at c.tight t rest inside cut) tight,
      stands_in line c.at c.tight t rest inside cut,
    )

pub other_part : (c d : Cursor) (t : Token) (p : Part) → Next c (part t) d → (part t ≡ p → ⊥) → NotNext c p
other_part c d t p next other ps left = other (sym (next.from p ps left).0)

-- nothing is left exactly where the cursor is at the line's end
all_read : (c : Cursor) → leb (length c.line.now) c.at ≡ true → Left c []
all_read c e = record { here = drop_all c.at c.line.now (leb-true _ _ e); goods = tt }

nothing_left : (c : Cursor) → Left c [] → leb (length c.line.now) c.at ≡ true
nothing_left c left = le-leb _ _ (omega (arith, ap length left.here, length-drop c.at c.line.now))

-- for `closes`: past the bracket and the line's end, the cursor's place tells whether anything is left
pub closes_where : (c : Cursor) (r s : Option Cursor) (b : Bool) → Past c closing r → MatchOption r (s ≡ None) (λ d. Past d ending s) → MatchOption s (b ≡ false) (λ e. b ≡ leb (length e.line.now) e.at) → Decides b (Left c (closing ∷ ending ∷ []))
closes_where c None None b first second last = ((λ e. absurd (true≢false (sym e ∙ last))), (λ left. absurd (first _ left)))
closes_where c None (Some e) b first second last = absurd (let z : ◌≡◌ {A = ℕ} 0 1 = cc in omega arith)
closes_where c (Some d) None b first second last = ((λ e. absurd (true≢false (sym e ∙ last))), (λ left. absurd (second _ (first.from _ _ left).1)))
closes_where c (Some d) (Some e) b first second last =
    ((λ is. first.to _ (second.to _ (all_read _ (sym last ∙ is)))), (λ left. last ∙ nothing_left _ (second.from _ _ (first.from _ _ left).1).1))
