-- The two functions of the cycle meet their contracts: a term by its head, a struct field by field. Assumes nothing.
use Rattle.std.proofs.Common.{◌≡◌, ℕ, ◌+◌, ◌*◌, sym, ap, ◌∙◌, ⊎_elim, arith}
use Rattle.words.specs.Bytes.{Bytes}
use Rattle.rules.specs.File.{entry_of, record_of}
use Rattle.rules.specs.declared.Record.{Record}
use Rattle.terms.specs.ExtentLaws.{term_int, term_ptr, term_untyped, term_arr, term_known, term_unknown, struct_all, so_begin, so_next, over_is, so_stop}
use Rattle.terms.specs.Extents.{so_far, field_count, field_place, times}
use Rattle.terms.specs.HeadLaws.{fair_at}
use Rattle.terms.specs.Heads.{place_of}
use Rattle.terms.proofs.+struct_extent_term_extent.Goals as goal

-- a field's place, as the code reads it
field_is : (f : Bytes) (n N i : ℕ) {p e : ℕ} {y : Record} → p ≡ place_of n e → e ≡ entry_of y i → y ≡ record_of f (n + 2 * N + 1) → p ≡ field_place f n N i
unfolding field_place
field_is f n N i a b d = a ∙ ap (place_of n) (b ∙ ap (λ (x : Record). entry_of x i) d)

pub struct_extent-loop-i-init : goal.struct_extent-loop-i-init
struct_extent-loop-i-init t c = let a = c.args in (so_begin a.f.now a.n a.number, (omega arith, omega arith))

pub struct_extent-returns-then-sum-gt-SIZE_LIMIT : goal.struct_extent-returns-then-sum-gt-SIZE_LIMIT
struct_extent-returns-then-sum-gt-SIZE_LIMIT t c =
    let a = c.args in
    let g = c.plus-sum.result in
    let p = field_is a.f.now a.n a.number c.loop-i.i c.place_of-p.ensures.0 c.entry_of.ensures.0 c.record_at-y.ensures in
    let next : g ≡ so_far a.f.now a.n a.number (c.loop-i.i + 1) = c.plus-sum.ensures.0 ∙ so_next a.f.now a.n a.number c.loop-i.i c.loop-i.sum c.loop-i.invariant.0 c.place_of-p.result p c.term_extent-e.result c.term_extent-e.ensures.0 in
    let z = over_is a.f.now a.n a.number c.loop-i.sum c.term_extent-e.result g c.plus-sum.ensures.0 (omega arith) in
    let e = so_stop a.f.now a.n a.number (c.loop-i.i + 1) c.from-i-end.result g next z (omega arith) in
    (sym (struct_all a.f.now a.n c.requires.0 a.number ∙ ap (so_far a.f.now a.n a.number) (sym (c.from-i-end.ensures ∙ ap (λ (x : Record). x.b) c.record_at-x.ensures)) ∙ e), (omega arith, omega arith))

pub struct_extent-loop-i-preserved : goal.struct_extent-loop-i-preserved
struct_extent-loop-i-preserved t c =
    let a = c.args in
    let p = field_is a.f.now a.n a.number c.loop-i.i c.place_of-p.ensures.0 c.entry_of.ensures.0 c.record_at-y.ensures in
    (c.plus-sum.ensures.0 ∙ so_next a.f.now a.n a.number c.loop-i.i c.loop-i.sum c.loop-i.invariant.0 c.place_of-p.result p c.term_extent-e.result c.term_extent-e.ensures.0, c.plus-sum.ensures.1)

pub struct_extent-returns : goal.struct_extent-returns
struct_extent-returns t c =
    let a = c.args in
    let e : c.loop-i.i ≡ field_count a.f.now a.n a.number = (let h : c.loop-i.i ≡ c.from-i-end.result = omega arith in h) ∙ c.from-i-end.ensures ∙ ap (λ (x : Record). x.b) c.record_at-x.ensures in
    (c.loop-i.invariant.0 ∙ ap (so_far a.f.now a.n a.number) e ∙ sym (struct_all a.f.now a.n c.requires.0 a.number), c.loop-i.invariant.1)

pub term_extent-returns-in-Int : goal.term_extent-returns-in-Int
term_extent-returns-in-Int t c =
    let a = c.args in
    let e = sym c.head_of.ensures.0 ∙ c.in-Int.is in
    (sym (term_int a.f.now a.k a.p _ e), (omega (arith, fair_at a.p _ _ c.head_of.ensures.1 c.in-Int.is), omega arith))

pub term_extent-returns-in-Ptr : goal.term_extent-returns-in-Ptr
term_extent-returns-in-Ptr t c =
    let a = c.args in
    (⊎_elim (λ h. sym (term_ptr a.f.now a.k a.p _ _ (sym c.head_of.ensures.0 ∙ h.2))) (λ h. sym (term_untyped a.f.now a.k a.p _ _ (sym c.head_of.ensures.0 ∙ h.2))) c.in-Ptr.is, (omega arith, omega arith))

pub term_extent-returns-in-Arr : goal.term_extent-returns-in-Arr
term_extent-returns-in-Arr t c =
    let a = c.args in
    (c.times.ensures.0 ∙ ap (times c.in-Arr.count) c.term_extent.ensures.0 ∙ sym (term_arr a.f.now a.k a.p _ _ (sym c.head_of.ensures.0 ∙ c.in-Arr.is)), c.times.ensures.1)

pub term_extent-returns-in-Struct : goal.term_extent-returns-in-Struct
term_extent-returns-in-Struct t c =
    let a = c.args in
    (c.struct_extent.ensures.0 ∙ sym (term_known a.f.now a.k a.p _ _ _ (sym c.head_of.ensures.0 ∙ c.in-Struct.is) c.if-number-k.true), c.struct_extent.ensures.1)

pub term_extent-returns-in-Struct-2 : goal.term_extent-returns-in-Struct-2
term_extent-returns-in-Struct-2 t c =
    let a = c.args in
    (sym (term_unknown a.f.now a.k a.p _ _ _ (sym c.head_of.ensures.0 ∙ c.in-Struct.is) c.if-number-k.false), (omega arith, omega arith))
