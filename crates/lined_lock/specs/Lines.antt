-- A line without a slot, by its head.
use Rattle.std.specs.Prelude.{◌≡◌, ℕ, cond, List, ◌∷◌, ◌≢◌}
use Rattle.std.proofs.Common.{ap}
use Rattle.std.proofs.lemmas.Bool.{eq-eqb, ne_eqb}
use Rattle.lock.specs.Line.{without}

pub without_hit : (x i : ℕ) (l : List ℕ) → x ≡ i → without i (x ∷ l) ≡ without i l
without_hit x i l e = ap (λ b. cond b (without i l) (x ∷ without i l)) (eq-eqb x i e)

pub without_miss : (x i : ℕ) (l : List ℕ) → (x ≢ i) → without i (x ∷ l) ≡ x ∷ without i l
without_miss x i l n = ap (λ b. cond b (without i l) (x ∷ without i l)) (ne_eqb x i n)
