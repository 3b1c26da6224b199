-- What a step leaves as it was: of every other slot all that a hand-over reads, of the slot that steps its pred, next and block.
use Rattle.std.proofs.Common.{◌≡◌, ℕ, true, false, ◌⊎◌, Some, None, Option, sym, refl, ap, ◌∙◌, subst, inl, inr}
use Rattle.std.proofs.lemmas.Bool.{cases_eq, both_ways}
use Rattle.std.proofs.lemmas.Option.{none-some}
use Rattle.queue_words.specs.Records.{relabelled, freed, noted, linked, keeping}
use Rattle.queue_words.specs.declared.record.Record.{Record}
use Rattle.queue_words.specs.declared.record.Successor.{Successor}
use Rattle.queue_words.specs.declared.record.Successor.TheVariants.{Nobody}
use Rattle.queue_words.specs.declared.standing.Standing.{Standing}
use Rattle.queue_lock.specs.Sets as is
use Rattle.queue_lock.specs.Config.{Config}
use Rattle.queue_lock.specs.Invariant.{owes}
use Rattle.queue_lock.specs.Shares.{owing_by, owing_writer}
use Rattle.queue_lock.specs.Alter as alter
use Rattle.queue_lock.specs.Alter.{altered}

pub record Kept (a b : Record) : Type 0 where
  pub pred : b.pred ≡ a.pred
  pub next : (n : ℕ) → a.next ≡ Some n → b.next ≡ Some n
  pub blocked : b.state.blocked ≡ true → a.state.blocked ≡ true

-- a record that its slot did not step with
pub record Later (a b : Record) : Type 0 where
  pub kept : Kept a b
  pub standing : b.standing ≡ a.standing
  pub w : b.w ≡ a.w
  pub owing : owes a ≡ true → owes b ≡ true

-- a slot that arrives keeps nothing; it was neither awaited nor owing
pub record Keeps (f g : ℕ → Record) (i : ℕ) : Type 0 where
  pub others : (s : ℕ) → (s ≡ i → ⊥) → Later (f s) (g s)
  pub own : (is.awaited (f i).standing ≡ true) ⊎ (owes (f i) ≡ true) → Kept (f i) (g i)

pub slot_or_not : (o : Option ℕ) (n : ℕ) → (o ≡ Some n) ⊎ (o ≡ Some n → ⊥)
slot_or_not None n = inr (λ e. none-some n e)
slot_or_not (Some m) n = elim (cases_eq m n) [ inl e ↦ inl (ap Some e) | inr d ↦ inr (λ e. d cc) ]

pub none_before : {a b : Record} → Kept a b → b.next ≡ None → a.next ≡ None
none_before {a} {b} k e = elim a.next as (λ o. ((n : ℕ) → o ≡ Some n → b.next ≡ Some n) → o ≡ None) [ None ↦ λ _. refl | Some n ↦ λ h. absurd (none-some n (sym e ∙ h n refl)) ] k.next

module _ {f g : ℕ → Record} {i : ℕ} (k : Keeps f g i) where
  pub kept : (s : ℕ) → (is.awaited (f s).standing ≡ true) ⊎ (owes (f s) ≡ true) → Kept (f s) (g s)
  kept s h = elim (cases_eq s i) [
    | inl e ↦ subst (λ x. Kept (f x) (g x)) (sym e) (k.own (subst (λ x. (is.awaited (f x).standing ≡ true) ⊎ (owes (f x) ≡ true)) e h))
    | inr d ↦ (k.others s d).kept
  ]

unchanged : (e : Record) → Later e e
unchanged e = record { kept = record { pred = refl; next = λ _ q. q; blocked = λ q. q }; standing = refl; w = refl; owing = λ q. q }

-- the slot that steps gets another record
pub one : (w : Config) (i : ℕ) (e : Record) (c : ℕ) → ((is.awaited (w.at i).standing ≡ true) ⊎ (owes (w.at i) ≡ true) → Kept (w.at i) e) → Keeps w.at (altered w i e c).at i
one w i e c h = record {
  others = λ s d. alter.to_there w i e c (Later (w.at s)) s d (unchanged (w.at s));
  own = λ q. alter.to_here w i e c (Kept (w.at i)) i refl (h q);
}

pub stands : (w : Config) (i : ℕ) (l : Standing) (c : ℕ) → Keeps w.at (altered w i (relabelled (w.at i) l) c).at i
stands w i l c = one w i (relabelled (w.at i) l) c (λ _. record { pred = refl; next = λ _ q. q; blocked = λ q. q })

pub frees : (w : Config) (i : ℕ) (l : Standing) (c : ℕ) → Keeps w.at (altered w i (freed (relabelled (w.at i) l)) c).at i
frees w i l c = one w i (freed (relabelled (w.at i) l)) c (λ _. record { pred = refl; next = λ _ q. q; blocked = λ q. absurd (both_ways false refl q) })

pub fetches : (w : Config) (i : ℕ) (l : Standing) (x : Option ℕ) (c : ℕ) → Keeps w.at (altered w i (keeping (relabelled (w.at i) l) x) c).at i
fetches w i l x c = one w i (keeping (relabelled (w.at i) l) x) c (λ _. record { pred = refl; next = λ _ q. q; blocked = λ q. q })

-- one record after another
kept_then : {a b c : Record} → Kept a b → Kept b c → Kept a c
kept_then h k = record { pred = k.pred ∙ h.pred; next = λ n q. k.next n (h.next n q); blocked = λ q. h.blocked (k.blocked q) }

later_then : {a b c : Record} → Later a b → Later b c → Later a c
later_then h k = record { kept = kept_then h.kept k.kept; standing = k.standing ∙ h.standing; w = k.w ∙ h.w; owing = λ q. k.owing (h.owing q) }

module _ (v : Config) (p : ℕ) (e : Record) (c : ℕ) (l : Later (v.at p) e) where
  -- every record is as it was, but for what the change of slot p may change
  pub touched : (s : ℕ) → Later (v.at s) ((altered v p e c).at s)
  touched s = alter.split v p e c (Later (v.at s)) s (λ q. subst (λ x. Later (v.at x) e) (sym q) l) (λ _. unchanged (v.at s))

  pub two : {f : ℕ → Record} {i : ℕ} → Keeps f v.at i → Keeps f (altered v p e c).at i
  two k = record { others = λ s d. later_then (k.others s d) (touched s); own = λ q. kept_then (k.own q) (touched _).kept }

pub freed_later : (e : Record) → Later e (freed e)
freed_later e = record { kept = record { pred = refl; next = λ _ q. q; blocked = λ q. absurd (both_ways false refl q) }; standing = refl; w = refl; owing = λ q. q }

pub linked_later : (e : Record) (n : ℕ) → e.next ≡ None → Later e (linked e n)
linked_later e n z = record { kept = record { pred = refl; next = λ m q. absurd (none-some m (sym z ∙ q)); blocked = λ q. q }; standing = refl; w = refl; owing = λ q. q }

pub noted_later : (e : Record) (a : Successor) → e.state.successor ≡ Nobody → Later e (noted e a)
noted_later e a z =
    record {
      kept = record { pred = refl; next = λ _ q. q; blocked = λ q. q };
      standing = refl;
      w = refl;
      owing = λ h. owing_by e.class e.state.successor e.standing h (owes (noted e a) ≡ true)
          (λ c q. owing_writer e.class a e.standing c q)
          (λ _ r _. absurd (cc (z, r)))
          (λ _ r _. absurd (cc (z, r)));
    }
