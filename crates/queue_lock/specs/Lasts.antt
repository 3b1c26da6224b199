-- Front and Alone last over a step that keeps the line, wakes or renames nobody in it, and brings nobody into the way.
use Rattle.std.specs.Prelude.{◌≡◌, ℕ, ◌<◌, false, length}
use Rattle.std.proofs.Common.{sym, subst, arith}
use Rattle.queue_lock.specs.Sets as is
use Rattle.queue_lock.specs.Places.{pos}
use Rattle.queue_lock.specs.Config.{Config}
use Rattle.queue_lock.specs.Invariant.{Front, Alone, Act, In, AllAct}

pub record Lasts (w v : Config) : Type 0 where
  pub line : v.line ≡ w.line
  pub act : (y : ℕ) → In w y → Act (w.at y) → Act (v.at y)
  pub writeway : (t : ℕ) → is.writeway (w.at t).standing ≡ false → is.writeway (v.at t).standing ≡ false
  pub readway : (t : ℕ) → is.readway (w.at t).standing ≡ false → is.readway (v.at t).standing ≡ false

pub front : {w v : Config} {x : ℕ} → Lasts w v → Front w x → Front v x
front {w} {v} {x} l f =
    record {
      inside = subst (λ n. pos n x < length n) (sym l.line) f.inside;
      ahead = λ y h. let k : pos w.line y < pos w.line x = subst (λ n. pos n y < pos n x) l.line h in l.act y (omega (arith, f.inside)) (f.ahead y k);
      clear = λ t. l.writeway t (f.clear t);
    }

pub alone : {w v : Config} {x : ℕ} → Lasts w v → Alone w x → Alone v x
alone {w} {v} {x} l f =
    record {
      inside = subst (λ n. pos n x < length n) (sym l.line) f.inside;
      first = subst (λ n. pos n x ≡ 0) (sym l.line) f.first;
      clear = λ t. l.writeway t (f.clear t);
      past = λ t. l.readway t (f.past t);
    }

pub all_act : {w v : Config} → Lasts w v → AllAct w → AllAct v
all_act {w} {v} l f y h = let k : In w y = subst (λ n. pos n y < length n) l.line h in l.act y k (f y k)

-- an Alone slot is at the front
pub alone_front : {w : Config} {x : ℕ} → Alone w x → Front w x
alone_front {w} {x} a = record { inside = a.inside; ahead = λ y h. absurd (omega (arith, a.first)); clear = a.clear }
