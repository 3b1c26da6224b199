-- X2 over a step: a slot that waits to be woken still has somebody responsible for it.
use Rattle.std.proofs.Common.{◌≡◌, ℕ, Bool, true, false, cond, ◌⊎◌, Some, sym, refl, ◌∙◌, subst, inl, inr}
use Rattle.std.proofs.lemmas.Bool.{cases_eq}
use Rattle.lock.specs.declared.words.Class.TheVariants.{Reading, Writing}
use Rattle.queue_words.specs.Records.{relabelled}
use Rattle.queue_words.specs.declared.record.Record.{Record}
use Rattle.queue_words.specs.declared.record.Successor.TheVariants.{Reader, Writer}
use Rattle.queue_words.specs.declared.standing.Standing.{Standing}
use Rattle.queue_lock.specs.Sets as is
use Rattle.queue_lock.specs.Config.{Config}
use Rattle.queue_lock.specs.Invariant.{Own, owes}
use Rattle.queue_lock.specs.Tended.{Tended, Responsible}
use Rattle.queue_lock.specs.Every.{implies}
use Rattle.queue_lock.specs.Untouched.{Keeps, kept}
use Rattle.queue_lock.specs.Facts.{one_class}
use Rattle.queue_lock.specs.Rows.{Row, row}
use Rattle.queue_lock.specs.Shares.{owing_by, owing_writer, owing_reader, owing_next}
use Rattle.queue_lock.specs.Tested.{no, gives, lacks}

-- what the slot that steps has to show: as one that waits, as an owner, as one that wakes; and what becomes of the next writer
pub record Mind (w v : Config) (i : ℕ) : Type 0 where
  pub dozing : is.dozing (v.at i).standing ≡ true → (v.at i).state.blocked ≡ true → (is.dozing (w.at i).standing ≡ true) ⊎ Responsible v i
  pub owing : (s : ℕ) → owes (w.at i) ≡ true → (w.at i).next ≡ Some s → (v.at s).state.blocked ≡ true → (owes (v.at i) ≡ true) ⊎ (v.next_writer ≡ Some s)
  pub waking : (s : ℕ) → is.waking (w.at i).standing ≡ true → (w.at i).w ≡ Some s → (v.at s).state.blocked ≡ true → ⊥
  pub named : (s : ℕ) → w.next_writer ≡ Some s → is.dozing (v.at s).standing ≡ true → (v.next_writer ≡ Some s) ⊎ ((is.waking (v.at i).standing ≡ true) × ((v.at i).w ≡ Some s))

dozing_awaited : (l : Standing) → is.dozing l ≡ true → is.awaited l ≡ true
unfolding is.dozing is.awaited
dozing_awaited l h = implies is.is_dozing is.is_awaited refl l h

module _ (w v : Config) (i : ℕ) (g : Tended w) (k : Keeps w.at v.at i) (r : Mind w v i) where
  responsible : (s : ℕ) → is.dozing (w.at s).standing ≡ true → is.dozing (v.at s).standing ≡ true → (v.at s).state.blocked ≡ true → Responsible w s → Responsible v s
  responsible s a h b (inl (p, (q, (n, y)))) =
      let own : (v.at p).next ≡ Some s = (kept k p (inr y)).next s n in
      let pred : (v.at s).pred ≡ Some p = (kept k s (inl (dozing_awaited _ a))).pred ∙ q in
      elim (cases_eq p i) [
        | inl e ↦ elim (r.owing s (subst (λ x. owes (w.at x) ≡ true) e y) (subst (λ x. (w.at x).next ≡ Some s) e n) b) [
          | inl z ↦ inl (p, (pred, (own, subst (λ x. owes (v.at x) ≡ true) (sym e) z)))
          | inr z ↦ inr (inl z)
        ]
        | inr d ↦ inl (p, (pred, (own, (k.others p d).owing y)))
      ]
  responsible s a h b (inr (inl q)) = elim (r.named s q h) [ inl z ↦ inr (inl z) | inr z ↦ inr (inr (i, z)) ]
  responsible s a h b (inr (inr (t, (y, q)))) = elim (cases_eq t i) [
    | inl e ↦ absurd (r.waking s (subst (λ x. is.waking (w.at x).standing ≡ true) e y) (subst (λ x. (w.at x).w ≡ Some s) e q) b)
    | inr d ↦ inr (inr (t, (subst (λ l. is.waking l ≡ true) (sym (k.others t d).standing) y, (k.others t d).w ∙ q)))
  ]

  still : (s : ℕ) → is.dozing (w.at s).standing ≡ true → is.dozing (v.at s).standing ≡ true → (v.at s).state.blocked ≡ true → Responsible v s
  still s a h b = responsible s a h b (g.minded s a ((kept k s (inl (dozing_awaited _ a))).blocked b))

  pub minded : (s : ℕ) → is.dozing (v.at s).standing ≡ true → (v.at s).state.blocked ≡ true → Responsible v s
  minded s h b = elim (cases_eq s i) [
    | inl e ↦ elim (r.dozing (subst (λ x. is.dozing (v.at x).standing ≡ true) e h) (subst (λ x. (v.at x).state.blocked ≡ true) e b)) [
      | inl a ↦ still s (subst (λ x. is.dozing (w.at x).standing ≡ true) (sym e) a) h b
      | inr y ↦ subst (Responsible v) (sym e) y
    ]
    | inr d ↦ still s (subst (λ l. is.dozing l ≡ true) (k.others s d).standing h) h b
  ]

module _ (w v : Config) (i : ℕ) (a l : Standing) (o : Row (w.at i).standing a) (n : Row (v.at i).standing l) where
  pub dozed : cond (is.is_dozing l) (is.is_dozing a) true ≡ true → is.dozing (v.at i).standing ≡ true → (v.at i).state.blocked ≡ true → (is.dozing (w.at i).standing ≡ true) ⊎ Responsible v i
  dozed t h _ = inl (gives n.dozing o.dozing t h)

  -- the next writer is as before, and slot i wakes nobody
  pub mind : v.next_writer ≡ w.next_writer → no (is.is_waking a) ≡ true → (is.dozing (v.at i).standing ≡ true → (v.at i).state.blocked ≡ true → (is.dozing (w.at i).standing ≡ true) ⊎ Responsible v i) → ((s : ℕ) → owes (w.at i) ≡ true → (w.at i).next ≡ Some s → (v.at s).state.blocked ≡ true → (owes (v.at i) ≡ true) ⊎ (v.next_writer ≡ Some s)) → Mind w v i
  mind e t d f = record { dozing = d; owing = f; waking = λ s h. absurd (lacks o.waking t h); named = λ s q _. inl (e ∙ q) }

-- what slot i owes at the standing a it owes at the standing l
pub owe : (e : Record) (a l : Standing) → Row e.standing a → (e.class ≡ Writing → cond (is.is_owing_w a) (is.is_owing_w l) true ≡ true) → (e.class ≡ Reading → e.state.successor ≡ Reader → cond (is.is_owing_r a) (is.is_owing_r l) true ≡ true) → (e.class ≡ Reading → e.state.successor ≡ Writer → cond (is.is_owing_n a) (is.is_owing_n l) true ≡ true) → owes e ≡ true → owes (relabelled e l) ≡ true
owe e a l o x y z h =
    let n = row l in
    owing_by e.class e.state.successor e.standing h (owes (relabelled e l) ≡ true)
    (λ c q. owing_writer e.class _ l c (gives o.owing_w n.owing_w (x c) q))
    (λ c s q. owing_reader e.class _ l c s (gives o.owing_r n.owing_r (y c s) q))
    (λ c s q. owing_next e.class _ l c s (gives o.owing_n n.owing_n (z c s) q))

unless : (x y : Bool) → cond x true y ≡ true → (x ≡ true → ⊥) → y ≡ true
unless true y t d = absurd (d refl)
unless false y t d = t

-- its class is known from its standing
pub owe_plain : (e : Record) (a l : Standing) → Row e.standing a → Own e → cond (is.is_reading a) true (cond (is.is_owing_w a) (is.is_owing_w l) true) ≡ true → cond (is.is_writing a) true (cond (is.is_owing_r a) (is.is_owing_r l) true) ≡ true → cond (is.is_writing a) true (cond (is.is_owing_n a) (is.is_owing_n l) true) ≡ true → owes e ≡ true → owes (relabelled e l) ≡ true
owe_plain e a l o u x y z = owe e a l o
    (λ c. unless _ _ x (λ q. one_class e (u.reading (o.reading ∙ q)) c))
    (λ c _. unless _ _ y (λ q. one_class e c (u.writing (o.writing ∙ q))))
    (λ c _. unless _ _ z (λ q. one_class e c (u.writing (o.writing ∙ q))))
