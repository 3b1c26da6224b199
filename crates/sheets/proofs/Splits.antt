-- Where the first line of a sheet ends.
use Rattle.std.proofs.Common.{◌≡◌, ℕ, zero, suc, ◌+◌, Bool, true, false, min, cond, eqb, List, [], ◌∷◌, ◌++◌, length, sym, refl, ap, ◌∙◌, arith, Bor}
use Rattle.std.proofs.lemmas.List.Sorted.{answers_always}
use Rattle.std.specs.Fn.{Called, ComputesKey}
use denote.Param.Members.{Mut}
use Rattle.std.specs.List.{IsFirstMatchOrLen}
use Rattle.sheets.specs.Sheets.{first_line, later_lines}

first_line_at : (b : ℕ) (bs : List ℕ) (test : Bool) → eqb b 10 ≡ test → first_line (b ∷ bs) ≡ cond test (b ∷ []) (b ∷ first_line bs)
first_line_at b bs test e = ap (λ (t : Bool). cond t (b ∷ []) (b ∷ first_line bs)) e

later_lines_at : (b : ℕ) (bs : List ℕ) (test : Bool) → eqb b 10 ≡ test → later_lines (b ∷ bs) ≡ cond test bs (later_lines bs)
later_lines_at b bs test e = ap (λ (t : Bool). cond t bs (later_lines bs)) e

-- what is cut after the first byte 10, or at the end where there is none, is the first line
first_is : (rest line later : List ℕ) (i : ℕ) → rest ≡ line ++ later → length line ≡ min (i + 1) (length rest) → IsFirstMatchOrLen (λ b. eqb b 10) rest i → (line ≡ first_line rest) × (later ≡ later_lines rest)
first_is [] [] later i e long found = (refl, sym e)
first_is [] (y ∷ line) later i e long found = absurd (omega (arith, ap length e))
first_is (b ∷ rest) [] later i e long found = absurd (omega arith)
first_is (b ∷ rest) (y ∷ []) later zero e long found =
    let ends : eqb b 10 ≡ true = found.1 (omega arith) 0 in
    let head : y ≡ b = cc in
    let tail : later ≡ rest = cc in
    (ap (λ (x : ℕ). x ∷ []) head ∙ sym (first_line_at b rest true ends), tail ∙ sym (later_lines_at b rest true ends))
first_is (b ∷ rest) (y ∷ z ∷ line) later zero e long found = absurd (omega arith)
first_is (b ∷ rest) (y ∷ line) later (suc i) e long found =
    let goes : eqb b 10 ≡ false = found.0 0 0 (omega arith) (omega arith) in
    let head : y ≡ b = cc in
    let tail : rest ≡ line ++ later = cc in
    let more = first_is rest line later i tail (omega arith) ((λ k d low below. found.0 (suc k) d (omega arith) (omega arith)), (λ below d. found.1 (omega arith) d)) in
    ((λ j. head j ∷ more.0 j) ∙ sym (first_line_at b rest false goes), more.1 ∙ sym (later_lines_at b rest false goes))

-- so it is for a part that `split_inclusive` cuts, where each call tests a byte for 10
pub first_cut : {F : Type 0} (g : Mut F (Bor ℕ × Unit {0}) Bool) (f f' : F) (rest line later : List ℕ) → rest ≡ line ++ later → (i : ℕ) × (length line ≡ min (i + 1) (length rest)) × ((p : ℕ → Bool) → ComputesKey g p f → ComputesKey g p f' × IsFirstMatchOrLen p rest i) → ((h : F) (a : Bor ℕ × Unit {0}) (r : Bool) (h' : F) → Called g h a r h' → r ≡ eqb a.0.now 10) → (line ≡ first_line rest) × (later ≡ later_lines rest)
first_cut g f f' rest line later e cut tests =
    first_is rest line later cut.0 e cut.1 (cut.2 (λ b. eqb b 10) (answers_always g _ f tests)).1
