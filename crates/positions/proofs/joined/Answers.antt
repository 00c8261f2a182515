-- `positions::joined` meets its contract: its bytes are those of the number.
use Rattle.std.proofs.Common.{◌≡◌, ℕ, ◌+◌, ◌*◌, sym, subst, arith, refl, get_or, ◌<◌, rules}
use Rattle.positions.specs.Positions.{joined_bytes}
use Rattle.positions.specs.Table.{own_byte}
use Rattle.terms.specs.Compare.{byte_under}
use Rattle.positions.proofs.joined.Goals as goal

pub returns : goal.returns
returns c =
    let a = c.args.to in
    let e : c.from_le_bytes.result ≡ get_or a 0 0 + 256 * get_or a 1 0 + 65536 * get_or a 2 0 + 16777216 * get_or a 3 0 = omega (arith, c.from_le_bytes.ensures) in
    let w = c.well_formed.0.1 in
    let z : (i : ℕ) → get_or a i 0 < 256 = λ i. search rules in
    (omega arith, subst (λ (d : ℕ). (v : ℕ) → byte_under a v ≡ own_byte d 4 v) (sym e) (joined_bytes a _ _ _ _ w.0.1 (refl, z 0) (refl, z 1) (refl, z 2) (refl, z 3)))
