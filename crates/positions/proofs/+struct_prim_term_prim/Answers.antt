-- The functions of the cycle meet their contracts. Assumes nothing.
use Prim.Native.Nat.{ℕ, ◌+◌, ◌-◌, ◌≤◌, ◌<◌, ◌*◌, ◌/◌}
use Rattle.rules.specs.File.{entry_of}
use Rattle.rules.specs.Flat.{Layout, count, sub_layout}
use Rattle.rules.specs.Types.{variable, arg}
use Rattle.rules.specs.declared.Record.{Record}
use Rattle.layout.specs.Prims.{nth}
use Rattle.positions.specs.Positions.{Found, before, field, fields_end, field_fits, size_next, count_next, sums_small, field_inside, in_field, found_field, keeps_args, found_single, single_other, struct_size_law, struct_count, found_struct, element_fits, element_some, element_inside, element_room, offset_le, found_arr}
use Rattle.positions.specs.Table.{term_layout, exact_of, struct_layout, NoStruct, InStruct, CoreIs}
use Rattle.positions.specs.TableLaws.{extent_small, known_less}
use Rattle.terms.specs.Extents.{field_place, field_count, firsts}
use Rattle.terms.specs.Heads.{place_of, args_of, head_of}
use Rattle.terms.specs.declared.Extent.{Extent}
use lib.ListN.{length}
use mathlib.Core.List.{List}
use mathlib.Core.Path.{◌≡◌, refl, sym, ap, ◌∙◌, subst}
use native.Mathlib.Numerals.{add-one}
use native.Mathlib.Omega.{arith}
use Rattle.positions.proofs.+struct_prim_term_prim.Goals.{struct_prim-After-extent_in-e, term_prim-After-extent_in-e, term_prim-After-head_of, term_prim-In-Fields}
use Rattle.positions.specs.declared.Core.{Core}
use Rattle.positions.specs.declared.Core.TheVariants.{Term}
use Rattle.positions.specs.declared.Primitive.{Primitive}
use Rattle.terms.specs.HeadLaws.{fair_at}
use Rattle.terms.specs.declared.Head.TheVariants.{Arr}
use native.Mathlib.Nat.{div-add-mod'}
use Rattle.positions.proofs.+struct_prim_term_prim.Goals as goal

-- What is known of a field once its extent is read, c, in plain names.
module _ {t : ℕ} (c : struct_prim-After-extent_in-e t) where
  abbrev fld-f : List ℕ
  fld-f = c.args.f.now

  abbrev fld-n : ℕ
  fld-n = c.args.n

  abbrev fld-N : ℕ
  fld-N = c.args.number

  abbrev fld-j : ℕ
  fld-j = c.loop-j.j

  fld-place : c.place_of-p.result ≡ field_place fld-f fld-n fld-N fld-j
  unfolding field_place
  fld-place = c.place_of-p.ensures.0 ∙ ap (place_of fld-n) (c.entry_of.ensures.0 ∙ ap (λ (x : ℕ). entry_of c.record_at-y.result x) c.from.ensures ∙ ap (λ (x : Record). entry_of x fld-j) c.record_at-y.ensures)

  fld-same : term_layout fld-f fld-N c.place_of-p.result ≡ field fld-f fld-n fld-N fld-j
  fld-same = ap (term_layout fld-f fld-N) fld-place

  fld-less : fld-j < field_count fld-f fld-n fld-N
  fld-less = let e = ap (λ (x : Record). x.b) c.record_at-x.ensures in let h = c.loop-j-test.true in omega arith

  fld-extent : c.extent_in-e.result ≡ exact_of (field fld-f fld-n fld-N fld-j)
  fld-extent =
      c.extent_in-e.ensures
      ∙ c.requires.4.entries c.place_of-p.result c.place_of-p.ensures.1
      (subst (λ (x : ℕ). (term_layout fld-f fld-N x).size ≤ 256) (sym fld-place) (field_fits fld-f fld-n fld-N c.requires.4.terms c.args.off c.args.i c.requires.1 c.requires.2 fld-j c.loop-j.size c.loop-j.count fld-less c.loop-j.invariant.0 c.loop-j.invariant.1))
      ∙ ap (λ (x : ℕ). exact_of (term_layout fld-f fld-N x)) fld-place

  fld-size : c.extent_in-e.result.size ≡ (field fld-f fld-n fld-N fld-j).size
  fld-size = ap (λ (x : Extent). x.size) fld-extent

  fld-count : c.extent_in-e.result.count ≡ length (field fld-f fld-n fld-N fld-j).prims
  fld-count = ap (λ (x : Extent). x.count) fld-extent

  fld-sum : c.loop-j.size + (field fld-f fld-n fld-N fld-j).size ≤ 256
  fld-sum = sums_small fld-f fld-n fld-N c.requires.4.terms c.args.off c.args.i c.requires.1 c.requires.2 fld-j c.loop-j.size c.loop-j.count fld-less c.loop-j.invariant.0 c.loop-j.invariant.1

pub struct_prim-loop-j-init : goal.struct_prim-loop-j-init
unfolding firsts
struct_prim-loop-j-init t c = (refl, refl, omega arith)

pub struct_prim-overflow_add-count : goal.struct_prim-overflow_add-count
struct_prim-overflow_add-count t c = omega (arith, extent_small c.args.tab.now c.place_of-p.result c.extent_in-e.result c.extent_in-e.ensures, c.loop-j.invariant.2, c.requires.5)

pub struct_prim-overflow_add-off : goal.struct_prim-overflow_add-off
struct_prim-overflow_add-off t c = omega (arith, in_field (fld-f (goal.at.struct_prim-overflow_add-off t c).After-extent_in-e) (fld-n (goal.at.struct_prim-overflow_add-off t c).After-extent_in-e) (fld-N (goal.at.struct_prim-overflow_add-off t c).After-extent_in-e) c.requires.4.terms c.args.off c.args.i c.requires.1 c.requires.2 (fld-j (goal.at.struct_prim-overflow_add-off t c).After-extent_in-e) c.loop-j.size c.loop-j.count (fld-less (goal.at.struct_prim-overflow_add-off t c).After-extent_in-e) c.loop-j.invariant.0 c.loop-j.invariant.1 c.loop-j.invariant.2 (let h = c.if-i-count.true in let e = fld-count (goal.at.struct_prim-overflow_add-off t c).After-extent_in-e in omega arith))

pub struct_prim-term_prim-requires : goal.struct_prim-term_prim-requires
struct_prim-term_prim-requires t c =
    let b = c.place_of-p.ensures.1 in
    let m = c.requires.4.terms.few in (
      omega arith,
      (
        b,
        subst (λ (L : Layout variable). c.args.off + c.loop-j.size + L.size ≤ 256) (sym (fld-same (goal.at.struct_prim-term_prim-requires t c).After-extent_in-e)) (in_field (fld-f (goal.at.struct_prim-term_prim-requires t c).After-extent_in-e) (fld-n (goal.at.struct_prim-term_prim-requires t c).After-extent_in-e) (fld-N (goal.at.struct_prim-term_prim-requires t c).After-extent_in-e) c.requires.4.terms c.args.off c.args.i c.requires.1 c.requires.2 (fld-j (goal.at.struct_prim-term_prim-requires t c).After-extent_in-e) c.loop-j.size c.loop-j.count (fld-less (goal.at.struct_prim-term_prim-requires t c).After-extent_in-e) c.loop-j.invariant.0 c.loop-j.invariant.1 c.loop-j.invariant.2 (let h = c.if-i-count.true in let e = fld-count (goal.at.struct_prim-term_prim-requires t c).After-extent_in-e in omega arith)),
        subst (λ (L : Layout variable). c.args.i - c.loop-j.count < count L) (sym (fld-same (goal.at.struct_prim-term_prim-requires t c).After-extent_in-e)) (field_inside (fld-f (goal.at.struct_prim-term_prim-requires t c).After-extent_in-e) (fld-n (goal.at.struct_prim-term_prim-requires t c).After-extent_in-e) (fld-N (goal.at.struct_prim-term_prim-requires t c).After-extent_in-e) c.requires.4.terms c.args.off c.args.i c.requires.1 c.requires.2 (fld-j (goal.at.struct_prim-term_prim-requires t c).After-extent_in-e) c.loop-j.size c.loop-j.count (fld-less (goal.at.struct_prim-term_prim-requires t c).After-extent_in-e) c.loop-j.invariant.0 c.loop-j.invariant.1 c.loop-j.invariant.2 (let h = c.if-i-count.true in let e = fld-count (goal.at.struct_prim-term_prim-requires t c).After-extent_in-e in omega arith)),
        c.requires.3,
        c.requires.4,
        omega (arith, c.requires.5),
      ),
    )

pub struct_prim-returns-then-i-count : goal.struct_prim-returns-then-i-count
struct_prim-returns-then-i-count t c = (
  found_field (fld-f (goal.at.struct_prim-returns-then-i-count t c).After-extent_in-e) (fld-n (goal.at.struct_prim-returns-then-i-count t c).After-extent_in-e) (fld-N (goal.at.struct_prim-returns-then-i-count t c).After-extent_in-e) c.requires.4.terms c.args.off c.args.i c.requires.1 c.requires.2 (fld-j (goal.at.struct_prim-returns-then-i-count t c).After-extent_in-e) c.loop-j.size c.loop-j.count (fld-less (goal.at.struct_prim-returns-then-i-count t c).After-extent_in-e) c.loop-j.invariant.0 c.loop-j.invariant.1 c.loop-j.invariant.2 (let h = c.if-i-count.true in let e = fld-count (goal.at.struct_prim-returns-then-i-count t c).After-extent_in-e in omega arith) c.term_prim.result c.args.to
      (subst (λ (L : Layout variable). Found (fld-f (goal.at.struct_prim-returns-then-i-count t c).After-extent_in-e) c.term_prim.result c.args.to (c.args.off + c.loop-j.size) (nth L (c.args.i - c.loop-j.count))) (fld-same (goal.at.struct_prim-returns-then-i-count t c).After-extent_in-e) c.term_prim.ensures.0),
  c.term_prim.ensures.1,
  c.term_prim.ensures.2,
)

pub struct_prim-overflow_add-size : goal.struct_prim-overflow_add-size
struct_prim-overflow_add-size t c = omega (arith, fld-sum (goal.at.struct_prim-overflow_add-size t c).After-extent_in-e, fld-size (goal.at.struct_prim-overflow_add-size t c).After-extent_in-e)

pub struct_prim-loop-j-preserved : goal.struct_prim-loop-j-preserved
struct_prim-loop-j-preserved t c = (
  ap (λ (x : ℕ). c.loop-j.size + x) (fld-size (goal.at.struct_prim-loop-j-preserved t c).After-extent_in-e) ∙ size_next c.args.f.now c.args.n c.args.number c.requires.4.terms c.args.off c.args.i c.requires.1 c.requires.2 c.loop-j.j c.loop-j.size c.loop-j.count (fld-less (goal.at.struct_prim-loop-j-preserved t c).After-extent_in-e) c.loop-j.invariant.0 c.loop-j.invariant.1 ∙ ap (λ (x : ℕ). (before c.args.f.now c.args.n c.args.number x).size) (sym (add-one c.loop-j.j)),
  ap (λ (x : ℕ). c.loop-j.count + x) (fld-count (goal.at.struct_prim-loop-j-preserved t c).After-extent_in-e) ∙ count_next c.args.f.now c.args.n c.args.number c.requires.4.terms c.args.off c.args.i c.requires.1 c.requires.2 c.loop-j.j c.loop-j.size c.loop-j.count (fld-less (goal.at.struct_prim-loop-j-preserved t c).After-extent_in-e) c.loop-j.invariant.0 c.loop-j.invariant.1 ∙ ap (λ (x : ℕ). length (before c.args.f.now c.args.n c.args.number x).prims) (sym (add-one c.loop-j.j)),
  omega (arith, c.if-i-count.false),
)

pub struct_prim-returns : goal.struct_prim-returns
struct_prim-returns t c = absurd (fields_end c.args.f.now c.args.n c.args.number c.requires.4.terms c.args.off c.args.i c.requires.1 c.requires.2 c.loop-j.j c.loop-j.count (let e = ap (λ (x : Record). x.b) c.record_at-x.ensures in let h = c.loop-j-test.false in omega arith) c.loop-j.invariant.1 c.loop-j.invariant.2)

-- What is known of a term whose core is a struct, c, in plain names.
module _ {t : ℕ} (c : term_prim-In-Fields t) where
  str-core : InStruct c.args.f.now c.args.p c.in-Fields.number c.in-Fields.regions
  str-core = subst (λ (x : Core). CoreIs c.args.f.now c.args.p x) (sym c.core_in.ensures ∙ c.in-Fields.is) (c.requires.4.cores c.args.p c.requires.0)

  str-fits : (term_layout c.args.f.now c.args.k c.args.p).size ≤ 256
  str-fits = let h = c.requires.1 in omega arith

  str-is : term_layout c.args.f.now c.args.k c.args.p ≡ sub_layout (arg (args_of c.in-Fields.regions 4)) (struct_layout c.args.f.now c.in-Fields.number)
  str-is = str-core.same c.args.k str-fits

-- and of one whose core is the term at a place
module _ {t : ℕ} (c : term_prim-After-head_of t) where
  abbrev trm-f : List ℕ
  trm-f = c.args.f.now

  abbrev trm-k : ℕ
  trm-k = c.args.k

  abbrev trm-p : ℕ
  trm-p = c.in-Term.c

  trm-core : CoreIs trm-f c.args.p (Term trm-p)
  trm-core = subst (λ (x : Core). CoreIs trm-f c.args.p x) (sym c.core_in.ensures ∙ c.in-Term.is) (c.requires.4.cores c.args.p c.requires.0)

  trm-low : trm-p ≤ c.args.n
  trm-low = let l = trm-core.0.low in omega (arith, c.requires.0)

  trm-same : term_layout trm-f trm-k c.args.p ≡ term_layout trm-f trm-k trm-p
  trm-same = trm-core.0.same trm-k (let h = c.requires.1 in omega arith)

  trm-fits : c.args.off + (term_layout trm-f trm-k trm-p).size ≤ 256
  trm-fits = subst (λ (L : Layout variable). c.args.off + L.size ≤ 256) trm-same c.requires.1

  trm-inside : c.args.i < count (term_layout trm-f trm-k trm-p)
  trm-inside = subst (λ (L : Layout variable). c.args.i < count L) trm-same c.requires.2

  -- what is found in the core is found in the term
  trm-found : (r : Primitive) → Found trm-f r c.args.to c.args.off (nth (term_layout trm-f trm-k trm-p) c.args.i) → Found trm-f r c.args.to c.args.off (nth (term_layout trm-f trm-k c.args.p) c.args.i)
  trm-found r found = subst (λ (L : Layout variable). Found trm-f r c.args.to c.args.off (nth L c.args.i)) (sym trm-same) found

-- which is an array
module _ {t : ℕ} (c : term_prim-After-extent_in-e t) where
  abbrev arr-a : ℕ
  arr-a = c.in-Arr.inner

  arr-head : head_of (trm-f (goal.at.term_prim-After-extent_in-e t c).After-head_of) (trm-p (goal.at.term_prim-After-extent_in-e t c).After-head_of) ≡ Arr c.in-Arr.count arr-a
  arr-head = sym c.head_of.ensures.0 ∙ c.in-Arr.is

  arr-less : arr-a < trm-p (goal.at.term_prim-After-extent_in-e t c).After-head_of
  arr-less = (fair_at (trm-p (goal.at.term_prim-After-extent_in-e t c).After-head_of) _ _ c.head_of.ensures.1 c.in-Arr.is).0

  arr-extent : c.extent_in-e.result ≡ exact_of (term_layout (trm-f (goal.at.term_prim-After-extent_in-e t c).After-head_of) (trm-k (goal.at.term_prim-After-extent_in-e t c).After-head_of) arr-a)
  arr-extent =
      c.extent_in-e.ensures ∙ c.requires.4.entries arr-a (let l = arr-less in let h = trm-low (goal.at.term_prim-After-extent_in-e t c).After-head_of in omega arith)
      (element_fits (trm-f (goal.at.term_prim-After-extent_in-e t c).After-head_of) (trm-k (goal.at.term_prim-After-extent_in-e t c).After-head_of) (trm-p (goal.at.term_prim-After-extent_in-e t c).After-head_of) c.args.off c.args.i c.args.to _ arr-a arr-head (trm-fits (goal.at.term_prim-After-extent_in-e t c).After-head_of) (trm-inside (goal.at.term_prim-After-extent_in-e t c).After-head_of))

  arr_size : c.extent_in-e.result.size ≡ (term_layout (trm-f (goal.at.term_prim-After-extent_in-e t c).After-head_of) (trm-k (goal.at.term_prim-After-extent_in-e t c).After-head_of) arr-a).size
  arr_size = ap (λ (x : Extent). x.size) arr-extent

  arr_count : c.extent_in-e.result.count ≡ length (term_layout (trm-f (goal.at.term_prim-After-extent_in-e t c).After-head_of) (trm-k (goal.at.term_prim-After-extent_in-e t c).After-head_of) arr-a).prims
  arr_count = ap (λ (x : Extent). x.count) arr-extent

  arr-offset : c.args.off + c.args.i / c.extent_in-e.result.count * c.extent_in-e.result.size ≤ 256
  arr-offset = offset_le (trm-f (goal.at.term_prim-After-extent_in-e t c).After-head_of) (trm-k (goal.at.term_prim-After-extent_in-e t c).After-head_of) (trm-p (goal.at.term_prim-After-extent_in-e t c).After-head_of) c.args.off c.args.i c.args.to _ arr-a arr-head (trm-fits (goal.at.term_prim-After-extent_in-e t c).After-head_of) (trm-inside (goal.at.term_prim-After-extent_in-e t c).After-head_of) _ _ arr_count arr_size

pub term_prim-returns-then-e-eq0 : goal.term_prim-returns-then-e-eq0
term_prim-returns-then-e-eq0 t c = absurd (element_some (trm-f (goal.at.term_prim-returns-then-e-eq0 t c).After-head_of) (trm-k (goal.at.term_prim-returns-then-e-eq0 t c).After-head_of) (trm-p (goal.at.term_prim-returns-then-e-eq0 t c).After-head_of) c.args.off c.args.i c.args.to _ (arr-a (goal.at.term_prim-returns-then-e-eq0 t c).After-extent_in-e) (arr-head (goal.at.term_prim-returns-then-e-eq0 t c).After-extent_in-e) (trm-fits (goal.at.term_prim-returns-then-e-eq0 t c).After-head_of) (trm-inside (goal.at.term_prim-returns-then-e-eq0 t c).After-head_of) (sym (arr_count (goal.at.term_prim-returns-then-e-eq0 t c).After-extent_in-e) ∙ c.if-e-eq0.true))

pub term_prim-overflow_mul-i : goal.term_prim-overflow_mul-i
term_prim-overflow_mul-i t c = omega (arith, arr-offset (goal.at.term_prim-overflow_mul-i t c).After-extent_in-e)

pub term_prim-overflow_add-off : goal.term_prim-overflow_add-off
term_prim-overflow_add-off t c = omega (arith, arr-offset (goal.at.term_prim-overflow_add-off t c).After-extent_in-e)

pub term_prim-term_prim-requires : goal.term_prim-term_prim-requires
term_prim-term_prim-requires t c =
    let m = arr-less (goal.at.term_prim-term_prim-requires t c).After-extent_in-e in
    let l = (trm-core (goal.at.term_prim-term_prim-requires t c).After-head_of).0.low in
    let b = c.requires.0 in (
      omega (arith, c.requires.0),
      (
        omega arith,
        element_room (trm-f (goal.at.term_prim-term_prim-requires t c).After-head_of) (trm-k (goal.at.term_prim-term_prim-requires t c).After-head_of) (trm-p (goal.at.term_prim-term_prim-requires t c).After-head_of) c.args.off c.args.i c.args.to _ (arr-a (goal.at.term_prim-term_prim-requires t c).After-extent_in-e) (arr-head (goal.at.term_prim-term_prim-requires t c).After-extent_in-e) (trm-fits (goal.at.term_prim-term_prim-requires t c).After-head_of) (trm-inside (goal.at.term_prim-term_prim-requires t c).After-head_of) _ _ (arr_count (goal.at.term_prim-term_prim-requires t c).After-extent_in-e) (arr_size (goal.at.term_prim-term_prim-requires t c).After-extent_in-e),
        element_inside (trm-f (goal.at.term_prim-term_prim-requires t c).After-head_of) (trm-k (goal.at.term_prim-term_prim-requires t c).After-head_of) (trm-p (goal.at.term_prim-term_prim-requires t c).After-head_of) c.args.off c.args.i c.args.to _ (arr-a (goal.at.term_prim-term_prim-requires t c).After-extent_in-e) (arr-head (goal.at.term_prim-term_prim-requires t c).After-extent_in-e) (trm-fits (goal.at.term_prim-term_prim-requires t c).After-head_of) (trm-inside (goal.at.term_prim-term_prim-requires t c).After-head_of) _ _ (arr_count (goal.at.term_prim-term_prim-requires t c).After-extent_in-e) (arr_size (goal.at.term_prim-term_prim-requires t c).After-extent_in-e),
        c.requires.3,
        c.requires.4,
        (let e = div-add-mod' c.args.i c.extent_in-e.result.count in omega (arith, c.requires.5)),
      ),
    )

pub term_prim-struct_prim-requires : goal.term_prim-struct_prim-requires
term_prim-struct_prim-requires t c =
    let s = struct_size_law c.args.f.now c.args.k c.args.p c.args.off c.args.i c.args.to _ 4 _ (str-is (goal.at.term_prim-struct_prim-requires t c).In-Fields) in
    let n = struct_count c.args.f.now c.args.k c.args.p c.args.off c.args.i c.args.to _ 4 _ (str-is (goal.at.term_prim-struct_prim-requires t c).In-Fields) in
    let less = (str-core (goal.at.term_prim-struct_prim-requires t c).In-Fields).known c.args.k (str-fits (goal.at.term_prim-struct_prim-requires t c).In-Fields) in (
      omega (arith, c.requires.0),
      (
        (str-core (goal.at.term_prim-struct_prim-requires t c).In-Fields).number,
        omega (arith, c.requires.1),
        omega (arith, c.requires.2),
        keeps_args c.args.to c.arguments.result _ 4 (omega arith) c.arguments.ensures,
        known_less c.args.f.now c.args.n _ c.args.k c.args.tab.now (omega arith) c.requires.4,
        c.requires.5,
      ),
    )

pub term_prim-returns-in-Fields : goal.term_prim-returns-in-Fields
term_prim-returns-in-Fields t c = (found_struct c.args.f.now c.args.k c.args.p c.args.off c.args.i c.args.to _ 4 _ (str-is (goal.at.term_prim-returns-in-Fields t c).In-Fields) c.arguments.result c.requires.3 c.arguments.ensures c.struct_prim.result c.struct_prim.ensures.0, c.struct_prim.ensures.1, c.struct_prim.ensures.2)

pub term_prim-returns-else-e-eq0 : goal.term_prim-returns-else-e-eq0
term_prim-returns-else-e-eq0 t c = (trm-found (goal.at.term_prim-returns-else-e-eq0 t c).After-head_of c.term_prim.result (found_arr (trm-f (goal.at.term_prim-returns-else-e-eq0 t c).After-head_of) (trm-k (goal.at.term_prim-returns-else-e-eq0 t c).After-head_of) (trm-p (goal.at.term_prim-returns-else-e-eq0 t c).After-head_of) c.args.off c.args.i c.args.to _ (arr-a (goal.at.term_prim-returns-else-e-eq0 t c).After-extent_in-e) (arr-head (goal.at.term_prim-returns-else-e-eq0 t c).After-extent_in-e) (trm-fits (goal.at.term_prim-returns-else-e-eq0 t c).After-head_of) (trm-inside (goal.at.term_prim-returns-else-e-eq0 t c).After-head_of) _ _ (arr_count (goal.at.term_prim-returns-else-e-eq0 t c).After-extent_in-e) (arr_size (goal.at.term_prim-returns-else-e-eq0 t c).After-extent_in-e) c.term_prim.result c.term_prim.ensures.0), c.term_prim.ensures.1, c.term_prim.ensures.2)

pub term_prim-returns-in_default : goal.term_prim-returns-in_default
term_prim-returns-in_default t c =
    let a = c.args in
    let at = (goal.at.term_prim-returns-in_default t c).After-head_of in
    let one = single_other a.f.now a.k (trm-p at) a.off a.i a.to _ (sym c.head_of.ensures.0) (subst NoStruct (sym c.head_of.ensures.0) (trm-core at).1) c.in_default.not-Arr in (
      trm-found at (record { off = a.off; place = trm-p at; to = a.to }) (found_single a.f.now a.k (trm-p at) a.off a.i a.to _ one.1 (trm-inside at)),
      trm-low at,
      omega (arith, trm-fits at),
    )
