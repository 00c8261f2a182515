-- That the fact which a mapped state holds has one proof at most. Assumes nothing.
use Rattle.std.specs.Prelude.{◌≡◌, ℕ, List, ◌<◌}
use Rattle.std.proofs.Common.{refl, ap, ap₂}
use Rattle.std.proofs.Props.{props}
use Rattle.std.specs.Coded.{le_prop}
use Rattle.words.specs.Bytes.{Bytes}
use Rattle.words.specs.Decide.{Each, none, more}
use Rattle.rules.specs.Types.{variable, Variable, Tree, Uses, in_int, in_ptr, in_arr, in_struct, in_raw_ptr, in_bytes}
use Rattle.positions.specs.Maps.{Narrow}

Each-prop : (n : ℕ) {rs : List Variable} (x y : Each (λ r. r.number < n) rs) → x ≡ y
Each-prop n none none = refl
Each-prop n (more a x) (more b y) = ap₂ more (le_prop a b) (Each-prop n x y)

Uses-prop : (n : ℕ) {T : Tree variable} (x y : Uses n T) → x ≡ y
Uses-prop n in_int in_int = refl
Uses-prop n (in_ptr a x) (in_ptr b y) = ap₂ in_ptr (le_prop a b) (Uses-prop n x y)
Uses-prop n (in_arr x) (in_arr y) = ap in_arr (Uses-prop n x y)
Uses-prop n (in_struct x) (in_struct y) = ap in_struct (Each-prop n x y)
Uses-prop n (in_raw_ptr a) (in_raw_ptr b) = ap in_raw_ptr (le_prop a b)
Uses-prop n in_bytes in_bytes = refl

uses_prop : (n : ℕ) (T : Tree variable) → IsProp (Uses n T)
uses_prop n T = Uses-prop n

pub Narrow-prop : (f : Bytes) → IsProp (Narrow f)
Narrow-prop f = Prim.hlevel (props, uses_prop)
