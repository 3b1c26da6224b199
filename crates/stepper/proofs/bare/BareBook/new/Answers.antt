use Rattle.std.proofs.Common.{◌≡◌, List, [], ◌∷◌, length, replicate, refl, ap, ◌∙◌, rules, of_calls}
use Rattle.std.specs.List.{FoldsTo}
use Rattle.stepper.proofs.bare.BareBook.new.Goals as goal

-- what calls that all gave v made
all_gave : {P A : Type 0} (step : P → A → P → Type 0) (v : A) → ((p : P) (x : A) (q : P) → step p x q → x ≡ v) → (p : P) (xs : List A) (q : P) → FoldsTo step p xs q → xs ≡ replicate (length xs) v
all_gave step v gives p [] q made = refl
all_gave step v gives p (x ∷ xs) q made =
    let first = gives p x made.0 made.1 in
    let rest = all_gave step v gives made.0 xs q made.2 in
    cc

pub returns : goal.returns
returns g c =
    let filled = all_gave _ g.K.Kind.empty (λ p x q called. search (rules, of_calls)) _ c.fill_with.new.self _ c.fill_with.ensures.ran.1 in
    (search rules, refl, filled ∙ ap (λ n. replicate n g.K.Kind.empty) c.fill_with.ensures.len)
