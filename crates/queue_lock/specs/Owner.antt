-- The predecessor of a slot that links itself has to wake it, or to make it next writer.
use Rattle.std.proofs.Common.{◌≡◌, true, cond, ◌⊎◌, refl, inl, inr}
use Rattle.std.proofs.lemmas.Bool.{cases_Bool}
use Rattle.lock.specs.declared.words.Class.TheVariants.{Writing}
use Rattle.queue_words.specs.declared.record.Record.{Record}
use Rattle.queue_words.specs.declared.standing.Standing.{Standing}
use Rattle.queue_lock.specs.Sets as is
use Rattle.queue_lock.specs.Invariant.{Own, Behind, owes}
use Rattle.queue_lock.specs.Every.{implies}
use Rattle.queue_lock.specs.Facts.{class_cases, one_class}
use Rattle.queue_lock.specs.Shares.{owing_writer, owing_reader, owing_next}

followed_owing_w : (l : Standing) → is.followed l ≡ true → (is.reading l ≡ true) ⊎ (is.owing_w l ≡ true)
unfolding is.followed is.reading is.owing_w
followed_owing_w l h = elim (cases_Bool (is.is_reading l)) [ inl a ↦ inl a | inr a ↦ inr (let k = implies is.is_followed (λ x. cond (is.is_reading x) true (is.is_owing_w x)) refl l h in rw a at k) ]

followed_owing_n : (l : Standing) → is.followed l ≡ true → (is.writing l ≡ true) ⊎ (is.owing_n l ≡ true)
unfolding is.followed is.writing is.owing_n
followed_owing_n l h = elim (cases_Bool (is.is_writing l)) [ inl a ↦ inl a | inr a ↦ inr (let k = implies is.is_followed (λ x. cond (is.is_writing x) true (is.is_owing_n x)) refl l h in rw a at k) ]

arriving_reading : (l : Standing) → is.arriving l ≡ true → is.reading l ≡ true
unfolding is.arriving is.reading
arriving_reading l h = implies is.is_arriving is.is_reading refl l h

arriving_owing : (l : Standing) → is.arriving l ≡ true → is.owing_r l ≡ true
unfolding is.arriving is.owing_r
arriving_owing l h = implies is.is_arriving is.is_owing_r refl l h

module _ (s p : Record) (u : Own p) (b : Behind s p) where
  writer_owes : p.class ≡ Writing → owes p ≡ true
  writer_owes c = elim (followed_owing_w p.standing b.standing) [ inl r ↦ absurd (one_class p (u.reading r) c) | inr h ↦ owing_writer p.class _ _ c h ]

  -- at W7
  pub noted_owes : is.noted s.standing ≡ true → owes p ≡ true
  noted_owes h = elim (class_cases p.class) [
    | inr c ↦ writer_owes c
    | inl c ↦ elim (followed_owing_n p.standing b.standing) [ inl r ↦ absurd (one_class p c (u.writing r)) | inr k ↦ owing_next p.class _ _ c (b.noted h) k ]
  ]

  -- at R5
  pub linking_owes : is.linking s.standing ≡ true → owes p ≡ true
  linking_owes h = elim (b.linking h) [
    | inl c ↦ writer_owes c
    | inr y ↦ owing_reader p.class _ _ (u.reading (arriving_reading _ y.1)) y.0 (arriving_owing _ y.1)
  ]
