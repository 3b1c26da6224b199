-- Stations: a given is an expedition's number.
use Rattle.std.specs.Prelude.{ℕ, ◌^◌, Bool, cond, ◌==◌, bit_or, count_ones, nat_le, nat_lt}
use Rattle.entry.specs.declared.station.Station.{Station}

-- 255 says that nobody was first
abbrev pub empty_station : Station
empty_station = record { first = 255; set = 0 }

abbrev pub station_accepted : ℕ → Bool
station_accepted g = nat_lt g 32

-- the expedition's bit is set, and where nobody was first it is
abbrev pub station_joined : Station → ℕ → Station
station_joined e g = record {
  first = cond (e.first == 255) g e.first;
  set = bit_or e.set (2 ^ g);
}

-- two expeditions or more
abbrev pub station_checked : Station → Bool
station_checked e = nat_le 2 (count_ones e.set)
