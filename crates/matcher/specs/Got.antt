-- What was read of a file: how many bytes, and whether they are all. Assumes nothing.
use Rattle.std.specs.Prelude.{ℕ}
use Rattle.matcher.specs.declared.Got.{Got}
use Rattle.matcher.specs.declared.Got.TheVariants.{All, Part}

abbrev pub count_of : Got → ℕ
count_of (All n) = n
count_of (Part n) = n

abbrev pub IsAll : Got → Type 0
IsAll (All n) = Unit {0}
IsAll (Part n) = ⊥
