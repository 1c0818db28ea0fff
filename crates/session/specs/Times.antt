-- Which times a layout may be given.
use Rattle.std.specs.Prelude.{◌≡◌, ℕ, ◌^◌, Bool, if◌then◌else◌, ◌||◌, Ok, Err, Result, ◌==◌, nat_le, nat_lt}
use Rattle.records.specs.declared.flaw.Flaw.{Flaw}
use Rattle.records.specs.declared.flaw.Flaw.TheVariants as flaw
use Rattle.session.specs.declared.times.Times.{Times}

-- 1: the horizon is 0 or above 2^32
abbrev pub bad_horizon : ℕ → Bool
bad_horizon horizon = horizon == 0 || nat_lt (2 ^ 32) horizon

-- 2: the window is not above the horizon, or is above 2^33
abbrev pub bad_window : (horizon window : ℕ) → Bool
bad_window horizon window = nat_le window horizon || nat_lt (2 ^ 33) window

-- what setting the times answers
abbrev pub times_answer : (horizon window : ℕ) → Result (Unit {0}) Flaw
times_answer horizon window = if bad_horizon horizon then Err flaw.Horizon else if bad_window horizon window then Err flaw.Window else Ok tt

-- times are made as they are given, or the flaw is answered
abbrev pub Timed : (horizon window : ℕ) → Result Times Flaw → Type 0
Timed horizon window (Ok t) = (times_answer horizon window ≡ Ok tt) × (t.horizon ≡ horizon) × (t.window ≡ window)
Timed horizon window (Err e) = times_answer horizon window ≡ Err e
