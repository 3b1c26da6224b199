-- Runs of bytes, and the decimal form of a number.
use Rattle.std.proofs.Common.{◌≡◌, ℕ, ◌^◌, ◌<◌, ◌≤◌, List, [], ◌∷◌, ◌++◌, length, get_or, Some, None, Option, Ok, Err, MatchResult, IsSomeAnd, IsUtf8, decimal, Result, sym, refl, ap, ◌∙◌, subst, ⊎_elim, arith, rules, Bor}
use Rattle.std.proofs.lemmas.Fmt.{IsAscii-from_digits, decimal_nonempty, first_decimal, decimal_digit, digits_value-decimal, decimal-digits_value}
use Rattle.std.proofs.lemmas.Str.Parse.{IsNumeralModel, numerals_by_value, parse_digits}
use Rattle.std.proofs.lemmas.Result.{OkIff-at_ok, OkIff-at_err}
use Rattle.std.proofs.lemmas.Str.{IsUtf8-from_ascii}
use Rattle.std.proofs.lemmas.Bool.{cases_eq}
use Rattle.std.specs.Str.Parse.{digits_value, ParsesUnsigned}
use Rattle.std.specs.Result.{result_ok}
use Rattle.std.specs.Int.{IsInRange}
use Rattle.std.specs.List.{AllByRecursion}
use Rattle.sheet_text.specs.Cuts.{Stops, ValueOf}

-- a run and what follows it are determined
pub run_unique : (low high : ℕ) (xs ys r r' : List ℕ) → AllByRecursion (IsInRange low high) xs → AllByRecursion (IsInRange low high) ys → Stops low high r → Stops low high r' → xs ++ r ≡ ys ++ r' → (xs ≡ ys) × (r ≡ r')
run_unique low high [] [] r r' a b s t e = (refl, e)
run_unique low high [] (y ∷ ys) [] r' a b s t e = absurd (let z : ◌≡◌ {A = ℕ} 0 1 = cc in omega arith)
run_unique low high [] (y ∷ ys) (c ∷ r) r' a b s t e = absurd (s (subst (IsInRange low high) (cc) b.0))
run_unique low high (x ∷ xs) [] r [] a b s t e = absurd (let z : ◌≡◌ {A = ℕ} 0 1 = cc in omega arith)
run_unique low high (x ∷ xs) [] r (c ∷ r') a b s t e = absurd (t (subst (IsInRange low high) (cc) a.0))
run_unique low high (x ∷ xs) (y ∷ ys) r r' a b s t e =
    let same : x ≡ y = cc in
    let rest : xs ++ r ≡ ys ++ r' = cc in
    let more = run_unique low high xs ys r r' a.1 b.1 s t rest in
    ((λ i. same i ∷ more.0 i), more.1)

-- digits as `parse` reads them
pub own : IsNumeralModel (λ ds. AllByRecursion (IsInRange 48 57) ds) (digits_value 10)
own = numerals_by_value _ (search rules)

-- a number has no leading 0, but for 0 itself
decimal_lead : (n : ℕ) → n < 2 ^ 32 → get_or (decimal n) 0 0 ≡ 48 → length (decimal n) ≡ 1
decimal_lead n h e =
    ⊎_elim (λ z. ap (λ (m : ℕ). length (decimal m)) z ∙ ap length (decimal_digit 0 (omega arith))) (λ nz. absurd (omega (arith, first_decimal n (omega arith) (omega arith)))) (cases_eq n 0)

pub not_decimal_nil : (ds : List ℕ) → length ds ≡ 0 → (n : ℕ) → n < 2 ^ 32 → ds ≡ decimal n → ⊥
not_decimal_nil ds z n h e = omega (arith, decimal_nonempty n (omega arith), ap length e)

pub not_decimal_lead : (ds : List ℕ) → get_or ds 0 0 ≡ 48 → 1 < length ds → (n : ℕ) → n < 2 ^ 32 → ds ≡ decimal n → ⊥
not_decimal_lead ds z l n h e = omega (arith, decimal_lead n h (sym (ap (λ (xs : List ℕ). get_or xs 0 0) e) ∙ z), ap length e)

-- what `parse` reads of digits with no leading zero
parsed : {E : Type 0} (ds text : List ℕ) (r : Result ℕ E) (n : ℕ) → text ≡ ds → AllByRecursion (IsInRange 48 57) ds → (length ds ≡ 0 → ⊥) → (get_or ds 0 0 ≡ 48 → length ds ≤ 1) → ParsesUnsigned 32 10 text r → r ≡ Ok n → (ds ≡ decimal n) × (n < 2 ^ 32)
parsed ds text r n same all some lead reads is =
    let got = OkIff-at_ok r _ _ n (parse_digits own 32 ds r (subst (λ (t : List ℕ). ParsesUnsigned 32 10 t r) same reads) all) is in
    let low : digits_value 10 ds < 2 ^ 32 = got.0.1 in
    (sym (decimal-digits_value own ds all (omega arith) (λ e. omega (arith, lead e)) (omega arith)) ∙ ap decimal (sym got.1), omega (arith, got.1))

not_parsed : {E : Type 0} (ds text : List ℕ) (r : Result ℕ E) (d : E) → text ≡ ds → AllByRecursion (IsInRange 48 57) ds → ParsesUnsigned 32 10 text r → r ≡ Err d → (n : ℕ) → n < 2 ^ 32 → ds ≡ decimal n → ⊥
not_parsed ds text r d same all reads is n h e =
    let v : digits_value 10 ds ≡ n = ap (digits_value 10) e ∙ digits_value-decimal own n (omega arith) in
    OkIff-at_err r _ _ d (parse_digits own 32 ds r (subst (λ (t : List ℕ). ParsesUnsigned 32 10 t r) same reads) all) is (omega (arith, decimal_nonempty n (omega arith), ap length e), omega arith)

-- so it reads a number exactly where the digits are one's decimal form
pub number_read : {E : Type 0} (ds text : List ℕ) (r : Result ℕ E) (o : Option ℕ) → o ≡ result_ok r → text ≡ ds → AllByRecursion (IsInRange 48 57) ds → (length ds ≡ 0 → ⊥) → (get_or ds 0 0 ≡ 48 → length ds ≤ 1) → ParsesUnsigned 32 10 text r → ValueOf ds o
number_read ds text (Ok n) None is same all some lead reads = absurd (let z : ◌≡◌ {A = ℕ} 0 1 = cc in omega arith)
number_read {E} ds text (Ok n) (Some m) is same all some lead reads = parsed {E = E} ds text (Ok n) m same all some lead reads (cc)
number_read ds text (Err d) None is same all some lead reads = not_parsed ds text (Err d) d same all reads refl
number_read ds text (Err d) (Some m) is same all some lead reads = absurd (let z : ◌≡◌ {A = ℕ} 0 1 = cc in omega arith)

-- digits are text
digits_utf8 : (ds : List ℕ) → AllByRecursion (IsInRange 48 57) ds → IsUtf8 ds
digits_utf8 ds all = IsUtf8-from_ascii ds (IsAscii-from_digits ds (own.to ds all))

pub text_of_digits : {E : Type 0} (Q : E → Type 0) (ds : List ℕ) (r : Result (Bor (List ℕ)) E) (o s : Option (Bor (List ℕ))) → AllByRecursion (IsInRange 48 57) ds → o ≡ result_ok r → MatchResult r (λ t. (t.now ≡ ds) × IsUtf8 ds) (λ e. (IsUtf8 ds → ⊥) × Q e) → o ≡ s → IsSomeAnd s (λ t. t.now ≡ ds)
text_of_digits Q ds (Ok t) o s all kept told is = rw (sym is ∙ kept) told.0
text_of_digits Q ds (Err e) o s all kept told is = absurd (told.0 (digits_utf8 ds all))
