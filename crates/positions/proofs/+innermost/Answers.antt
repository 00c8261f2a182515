-- `positions::innermost` meets its contract: a struct of one field that is a struct is that one, whose number is lower.
use Rattle.std.proofs.Common.{◌≡◌, ℕ, ◌+◌, ◌*◌, sym, ap, ◌∙◌, subst, arith}
use Rattle.words.specs.Bytes.{Bytes}
use Rattle.rules.specs.File.{entry_of, record_of}
use Rattle.rules.specs.declared.Record.{Record}
use Rattle.positions.specs.Table.{Bare}
use Rattle.positions.specs.Cores.{ends_on, ends_here}
use Rattle.terms.specs.Extents.{field_place, field_count}
use Rattle.terms.specs.Heads.{place_of}
use Rattle.positions.proofs.+innermost.Goals as goal

-- the place of the one field, as the code reads it
field_is : (f : Bytes) (n N : ℕ) {p e : ℕ} {y : Record} → p ≡ place_of n e → e ≡ entry_of y 0 → y ≡ record_of f (n + 2 * N + 1) → p ≡ field_place f n N 0
unfolding field_place
field_is f n N a b d = a ∙ ap (place_of n) (b ∙ ap (λ (x : Record). entry_of x 0) d)

pub returns-then-x-eq1 : goal.returns-then-x-eq1
returns-then-x-eq1 t c =
    let a = c.args in
    let q = c.requires in
    let place = field_is a.f.now a.n a.number c.place_of.ensures.0 c.entry_of.ensures.0 c.record_at-y.ensures in
    let field : Bare a.f.now (field_place a.f.now a.n a.number 0) c.bare-q.result = subst (λ (x : ℕ). Bare a.f.now x c.bare-q.result) place c.bare-q.ensures in
    let one : field_count a.f.now a.n a.number ≡ 1 = let e = ap (λ (x : Record). x.b) c.record_at-x.ensures in let h = c.if-x-eq1.true in omega arith in
    ends_on a.f.now a.n a.number q.2 one c.bare-q.result field _ _ _ (sym c.head_of.ensures.0 ∙ c.in-Struct.is) c.if-inside-number.true a.to c.substituted.result q.1 c.substituted.ensures _ _ c.innermost.ensures

pub returns : goal.returns
returns t c = let a = c.args in ends_here a.f.now a.number a.to c.joined.result c.joined.ensures.0 c.joined.ensures.1
