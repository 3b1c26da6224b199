-- X3 over a step: a next writer that waits while nobody is counted is still looked after.
use Rattle.std.proofs.Common.{◌≡◌, ℕ, true, cond, ◌⊎◌, Some, None, sym, refl, ap, ◌∙◌, subst, inl, inr}
use Rattle.std.proofs.lemmas.Bool.{cases_eq}
use Rattle.queue_words.specs.declared.standing.Standing.{Standing}
use Rattle.queue_lock.specs.Sets as is
use Rattle.queue_lock.specs.Config.{Config}
use Rattle.queue_lock.specs.Invariant.{Inv}
use Rattle.queue_lock.specs.Tended.{Tended, Looked}
use Rattle.queue_lock.specs.Untouched.{Keeps}
use Rattle.queue_lock.specs.Rows.{Row}
use Rattle.queue_lock.specs.Tested.{no, gives, lacks}

-- how it was with the next writer x before
pub record Was (w v : Config) (i x : ℕ) : Type 0 where
  pub next : w.next_writer ≡ Some x
  pub count : w.reader_count ≡ 0
  pub asleep : x ≡ i → is.sleeping_w (w.at i).standing ≡ true
  pub looked : Looked w x i → Looked v x i

-- slot i comes to look, or has looked as before
abbrev pub Look : Config → Config → ℕ → Type 0
Look w v i = (x : ℕ) → v.next_writer ≡ Some x → is.sleeping_w (v.at x).standing ≡ true → v.reader_count ≡ 0 → (is.looking (v.at i).standing ≡ true) ⊎ Was w v i x

module _ (w v : Config) (i : ℕ) (g : Tended w) (k : Keeps w.at v.at i) (r : Look w v i) where
  looked : (x : ℕ) → Was w v i x → (t : ℕ) × Looked w x t → (t : ℕ) × Looked v x t
  looked x y (t, h) = elim (cases_eq t i) [
    | inl e ↦ (i, y.looked (subst (Looked w x) e h))
    | inr d ↦
        let o = k.others t d in
        elim h [
          | inl a ↦ (t, inl (subst (λ l. is.looking l ≡ true) (sym o.standing) a))
          | inr a ↦ (t, inr (subst (λ l. is.asking l ≡ true) (sym o.standing) a.0, o.w ∙ a.1))
        ]
  ]

  pub looked_after : (x : ℕ) → v.next_writer ≡ Some x → is.sleeping_w (v.at x).standing ≡ true → v.reader_count ≡ 0 → (t : ℕ) × Looked v x t
  looked_after x q h z = elim (r x q h z) [
    | inl a ↦ (i, inl a)
    | inr y ↦
        let a : is.sleeping_w (w.at x).standing ≡ true = elim (cases_eq x i) [
          | inl e ↦ subst (λ n. is.sleeping_w (w.at n).standing ≡ true) (sym e) (y.asleep e)
          | inr d ↦ subst (λ l. is.sleeping_w l ≡ true) (k.others x d).standing h
        ] in
        looked x y (g.looked_after x y.next a y.count)
  ]

-- no next writer, or somebody is counted
pub look_unnamed : {w v : Config} {i : ℕ} → v.next_writer ≡ None → Look w v i
look_unnamed {w} {v} {i} e x q h z = absurd (cc (e, q))

pub look_counted : {w v : Config} {i : ℕ} → (v.reader_count ≡ 0 → ⊥) → Look w v i
look_counted {w} {v} {i} d x q h z = absurd (d z)

module _ (w v : Config) (i : ℕ) (a l : Standing) (o : Row (w.at i).standing a) (n : Row (v.at i).standing l) where
  -- the next writer and the count as before, and slot i looks as before
  pub look_same : v.next_writer ≡ w.next_writer → v.reader_count ≡ w.reader_count → no (is.is_sleeping_w l) ≡ true → ((x : ℕ) → w.next_writer ≡ Some x → Looked w x i → Looked v x i) → Look w v i
  look_same e c t f x q h z = inr (record { next = sym e ∙ q; count = sym c ∙ z; asleep = λ j. absurd (lacks n.sleeping_w t (subst (λ y. is.sleeping_w (v.at y).standing ≡ true) j h)); looked = f x (sym e ∙ q) })

  -- slot i did not look; where it may be next writer, it waits as before
  pub look : Inv w → v.next_writer ≡ w.next_writer → (v.reader_count ≡ 0 → (w.reader_count ≡ 0) ⊎ (is.looking (v.at i).standing ≡ true)) → cond (is.is_waiting a) (cond (is.is_sleeping_w l) (is.is_sleeping_w a) true) true ≡ true → no (is.is_looking a) ≡ true → no (is.is_asking a) ≡ true → Look w v i
  look iv e c s t u x q h z = elim (c z) [
    | inr y ↦ inl y
    | inl y ↦
        let m : w.next_writer ≡ Some x = sym e ∙ q in
        inr (record {
          next = m;
          count = y;
          asleep = λ j. gives n.sleeping_w o.sleeping_w (gives o.waiting refl s (iv.named i (m ∙ ap Some j)).0.standing) (subst (λ b. is.sleeping_w (v.at b).standing ≡ true) j h);
          looked = λ b. elim b [ inl b ↦ absurd (lacks o.looking t b) | inr b ↦ absurd (lacks o.asking u b.0) ];
        })
  ]
