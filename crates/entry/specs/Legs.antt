-- Legs: a given is a tape length in millimetres.
use Rattle.std.specs.Prelude.{ℕ, ◌+◌, min, max, Bool, cond, ◌&&◌, ◌==◌, nat_le}
use Rattle.entry.specs.declared.leg.Leg.{Leg}

-- sums stop at the largest number of 32 bits
abbrev pub capped_sum : ℕ → ℕ → ℕ
capped_sum a b = min (a + b) 4294967295

abbrev pub empty_leg : Leg
empty_leg = record { readings = 0; total = 0; least = 0; greatest = 0 }

abbrev pub leg_accepted : ℕ → Bool
leg_accepted g = nat_le 1 g && nat_le g 100000

-- one reading more; the first reading is both the least and the greatest
abbrev pub leg_joined : Leg → ℕ → Leg
leg_joined e g = record {
  readings = capped_sum e.readings 1;
  total = capped_sum e.total g;
  least = cond (e.readings == 0) g (min e.least g);
  greatest = cond (e.readings == 0) g (max e.greatest g);
}

abbrev pub leg_checked : Leg → Bool
leg_checked e = nat_le 2 e.readings
