-- The functions of the cycle meet their contracts. Assumes nothing.
use Prim.Native.Nat.{ℕ, ◌+◌, ◌*◌, ◌≤◌, ◌<◌}
use Rattle.rules.specs.Flat.{Layout, count, copies_of, sub_layout}
use Rattle.rules.specs.Types.{variable, arg}
use Rattle.layout.specs.Prims.{count_copies_of, size_copies_of}
use Rattle.terms.specs.declared.Extent.{Extent}
use Rattle.positions.specs.Table.{term_layout, exact_of, struct_layout, NoStruct, InStruct, CoreIs}
use Rattle.flattening.specs.Laws.{past_later, past_kept, written_none, kept_none, written_same, copies_end, kept_kept, written_kept, written_first, written_copy, written_shifted, copy_room, copy_behind, written_off, agree_written, past_put, size_next, count_next, field_fits, field_room, written_field, put_single, written_int, written_struct}
use mathlib.Core.Path.{◌≡◌, sym, ap, ◌∙◌, subst, refl}
use native.Mathlib.Numerals.{add-one}
use native.Mathlib.Omega.{arith}
use Rattle.flattening.proofs.+copies_written_struct_written_term_written.Goals.{copies_written-After-extent_in-e, copies_written-In-loop-h, struct_written-After-extent_in-e, struct_written-After-loop-j, struct_written-After-place_of-p, struct_written-Then-agree, term_written-After-head_of, term_written-In-Arr, term_written-In-Fields}
use Rattle.rules.specs.File.{entry_of}
use Rattle.rules.specs.declared.Record.{Record}
use Rattle.terms.specs.Extents.{field_place, field_count, firsts}
use Rattle.terms.specs.Heads.{place_of, args_of, head_of}
use Rattle.positions.specs.Positions.{before, field, struct_fields, keeps_args, single_int, single_other, struct_size_law, struct_count, arr_layout}
use Rattle.flattening.specs.Written.{PastOf, Past}
use mathlib.Core.List.{List}
use Rattle.words.specs.Bytes.{Bytes}
use Rattle.terms.specs.HeadLaws.{fair_at}
use Rattle.terms.specs.declared.Head.TheVariants.{Arr}
use Rattle.positions.specs.TableLaws.{known_less}
use Rattle.positions.specs.declared.Core.{Core}
use Rattle.positions.specs.declared.Core.TheVariants.{Term}
use lib.ListN.{replicate}
use Rattle.flattening.proofs.+copies_written_struct_written_term_written.Goals as goal

-- What is known of a copy once its extent is read, in plain names.
module _ {t : ℕ} (c : copies_written-After-extent_in-e t) where
  abbrev copy : Layout variable
  copy = term_layout c.args.f.now c.args.k c.args.a

  copy-fits : c.args.off + 0 * copy.size + copy.size ≤ 256
  copy-fits = copy_room c.args.off c.args.many 0 copy.size (let z = c.if-many-eq0.false in omega arith) c.requires.1

  copy-extent : c.extent_in-e.result ≡ exact_of copy
  copy-extent = c.extent_in-e.ensures ∙ c.requires.4.entries c.args.a c.requires.0 (let l = copy-fits in omega arith)

  copy-size : c.extent_in-e.result.size ≡ copy.size
  copy-size = ap (λ (x : Extent). x.size) copy-extent

  copy-count : c.extent_in-e.result.count ≡ count copy
  copy-count = ap (λ (x : Extent). x.count) copy-extent

-- and of copy h
module _ {t : ℕ} (c : copies_written-In-loop-h t) where
  copy-off : c.args.off + c.loop-h.h * c.extent_in-e.result.size + (copy (goal.at.copies_written-In-loop-h t c).After-extent_in-e).size ≤ 256
  copy-off = subst (λ (x : ℕ). c.args.off + c.loop-h.h * x + (copy (goal.at.copies_written-In-loop-h t c).After-extent_in-e).size ≤ 256) (sym (copy-size (goal.at.copies_written-In-loop-h t c).After-extent_in-e))
      (copy_room c.args.off c.args.many c.loop-h.h (copy (goal.at.copies_written-In-loop-h t c).After-extent_in-e).size c.loop-h-test.true c.requires.1)

  copy_start : c.args.at + c.loop-h.h * c.extent_in-e.result.count + count (copy (goal.at.copies_written-In-loop-h t c).After-extent_in-e) ≤ 256
  copy_start = subst (λ (x : ℕ). c.args.at + c.loop-h.h * x + count (copy (goal.at.copies_written-In-loop-h t c).After-extent_in-e) ≤ 256) (sym (copy-count (goal.at.copies_written-In-loop-h t c).After-extent_in-e))
      (copy_room c.args.at c.args.many c.loop-h.h (count (copy (goal.at.copies_written-In-loop-h t c).After-extent_in-e)) c.loop-h-test.true c.requires.2)

  copy-after : c.extent_in-e.result.count ≤ c.loop-h.h * c.extent_in-e.result.count
  copy-after = copy_behind c.loop-h.h c.extent_in-e.result.count (let l = c.loop-h.auto.h in omega arith)

pub copies_written-returns-then-many-eq0 : goal.copies_written-returns-then-many-eq0
copies_written-returns-then-many-eq0 t c =
    let a = c.args in
    let L = term_layout a.f.now a.k a.a in
    (written_same (ap (λ (x : ℕ). copies_of x L) (sym c.if-many-eq0.true)) (written_none (copies_of 0 L) (omega (arith, count_copies_of 0 L))), kept_none a.at c.requires.5, past_later a.at a.off c.requires.7 (omega arith) (omega arith))

pub copies_written-loop-h-init : goal.copies_written-loop-h-init
copies_written-loop-h-init t c =
    let w = c.term_written.ensures in
    let z = c.if-many-eq0.false in
    (λ to first. (written_first c.args.at c.args.off (copy (goal.at.copies_written-loop-h-init t c).After-extent_in-e) first, first), kept_none c.args.at w.1.room, w.2)

pub copies_written-loop-h-preserved : goal.copies_written-loop-h-preserved
copies_written-loop-h-preserved t c =
    let a = c.args in
    let h = c.loop-h.h in
    let v = c.loop-h.invariant in
    let y = c in
    let L = copy (goal.at.copies_written-loop-h-preserved t c).After-extent_in-e in
    let x = y.extent_in-e.result in
    let kept = c.shifted.ensures.kept in
    let after = copy-after (goal.at.copies_written-loop-h-preserved t c).In-loop-h in (
      λ to first.
          (let w = v.0 to first in (
            written_same (ap (λ (z : ℕ). copies_of z L) (sym (add-one h)))
                (written_copy a.at a.off h L x.size x.count (copy-size (goal.at.copies_written-loop-h-preserved t c).After-extent_in-e) (copy-count (goal.at.copies_written-loop-h-preserved t c).After-extent_in-e)
                (written_kept kept a.at (copies_of h L) (omega (arith, copies_end h L x.count (copy-count (goal.at.copies_written-loop-h-preserved t c).After-extent_in-e))) w.0) (written_shifted L (copy-count (goal.at.copies_written-loop-h-preserved t c).After-extent_in-e) w.1 c.shifted.ensures)),
            written_kept kept a.at L (omega (arith, copy-count (goal.at.copies_written-loop-h-preserved t c).After-extent_in-e)) w.1,
          )),
      kept_kept kept a.at (omega arith) v.1,
      past_kept (a.at + count L) (a.off + L.size) v.2 kept (omega (arith, copy-count (goal.at.copies_written-loop-h-preserved t c).After-extent_in-e)),
    )

pub copies_written-returns : goal.copies_written-returns
copies_written-returns t c =
    let e : c.loop-h.h ≡ c.args.many = (let z = c.if-many-eq0.false in let m = c.loop-h-test.false in omega arith) in (
      written_same (ap (λ (x : ℕ). copies_of x (copy (goal.at.copies_written-returns t c).After-extent_in-e)) e) (c.loop-h.invariant.0 c.args.to c.term_written.ensures.0).0,
      kept_kept c.loop-h.invariant.1 c.args.at (omega arith) c.term_written.ensures.1,
      (let a = c.args in
          let L = copy (goal.at.copies_written-returns t c).After-extent_in-e in
          past_later (a.at + count L) (a.off + L.size) c.loop-h.invariant.2
          (omega (arith, copy_behind a.many (count L) (let z = c.if-many-eq0.false in omega arith))) (omega (arith, copy_behind a.many L.size (let z = c.if-many-eq0.false in omega arith)))),
    )

-- What is known of a field once its place is read, in plain names.
module _ {t : ℕ} (c : struct_written-After-place_of-p t) where
  abbrev fld-f : List ℕ
  fld-f = c.args.f.now

  abbrev fld-n : ℕ
  fld-n = c.args.n

  abbrev fld-N : ℕ
  fld-N = c.args.number

  abbrev fld-j : ℕ
  fld-j = c.loop-j.j

  fld-place : c.place_of-p.result ≡ field_place fld-f fld-n fld-N fld-j
  unfolding field_place
  fld-place = c.place_of-p.ensures.0 ∙ ap (place_of fld-n) (c.entry_of.ensures.0 ∙ ap (λ (x : ℕ). entry_of c.record_at-y.result x) c.from.ensures ∙ ap (λ (x : Record). entry_of x fld-j) c.record_at-y.ensures)

  fld-same : term_layout fld-f fld-N c.place_of-p.result ≡ field fld-f fld-n fld-N fld-j
  fld-same = ap (term_layout fld-f fld-N) fld-place

  fld-less : fld-j < field_count fld-f fld-n fld-N
  fld-less = let e = ap (λ (x : Record). x.b) c.record_at-x.ensures in let h = c.loop-j-test.true in omega arith

  fld-fits : c.args.off + c.loop-j.size + (term_layout fld-f fld-N c.place_of-p.result).size ≤ 256
  fld-fits = subst (λ (L : Layout variable). c.args.off + c.loop-j.size + L.size ≤ 256) (sym fld-same)
      (field_fits fld-f fld-n fld-N c.requires.4.terms c.args.off c.args.at c.requires.1 c.requires.2 fld-j c.loop-j.size c.loop-j.count fld-less c.loop-j.invariant.0 c.loop-j.invariant.1)

  fld-room : c.args.at + c.loop-j.count + count (term_layout fld-f fld-N c.place_of-p.result) ≤ 256
  fld-room = subst (λ (L : Layout variable). c.args.at + c.loop-j.count + count L ≤ 256) (sym fld-same)
      (field_room fld-f fld-n fld-N c.requires.4.terms c.args.off c.args.at c.requires.1 c.requires.2 fld-j c.loop-j.size c.loop-j.count fld-less c.loop-j.invariant.0 c.loop-j.invariant.1)

-- and once its extent is
module _ {t : ℕ} (c : struct_written-After-extent_in-e t) where
  fld-extent : c.extent_in-e.result ≡ exact_of (term_layout (fld-f (goal.at.struct_written-After-extent_in-e t c).After-place_of-p) (fld-N (goal.at.struct_written-After-extent_in-e t c).After-place_of-p) c.place_of-p.result)
  fld-extent = c.extent_in-e.ensures ∙ c.requires.4.entries c.place_of-p.result c.place_of-p.ensures.1 (let l = fld-fits (goal.at.struct_written-After-extent_in-e t c).After-place_of-p in omega arith)

  fld-size : c.extent_in-e.result.size ≡ (term_layout (fld-f (goal.at.struct_written-After-extent_in-e t c).After-place_of-p) (fld-N (goal.at.struct_written-After-extent_in-e t c).After-place_of-p) c.place_of-p.result).size
  fld-size = ap (λ (x : Extent). x.size) fld-extent

  fld-count : c.extent_in-e.result.count ≡ count (term_layout (fld-f (goal.at.struct_written-After-extent_in-e t c).After-place_of-p) (fld-N (goal.at.struct_written-After-extent_in-e t c).After-place_of-p) c.place_of-p.result)
  fld-count = ap (λ (x : Extent). x.count) fld-extent

pub struct_written-loop-j-init : goal.struct_written-loop-j-init
unfolding firsts
struct_written-loop-j-init t c = (refl, refl, written_none (before c.args.f.now c.args.n c.args.number 0) refl, kept_none c.args.at c.requires.5, past_later c.args.at c.args.off c.requires.6 (omega arith) (omega arith))

pub struct_written-overflow_add-off : goal.struct_written-overflow_add-off
struct_written-overflow_add-off t c = omega (arith, fld-fits (goal.at.struct_written-overflow_add-off t c).After-place_of-p)

pub struct_written-overflow_add-at : goal.struct_written-overflow_add-at
struct_written-overflow_add-at t c = omega (arith, fld-room (goal.at.struct_written-overflow_add-at t c).After-place_of-p)

pub struct_written-term_written-requires : goal.struct_written-term_written-requires
struct_written-term_written-requires t c =
    let q = c.requires in
    (omega (arith, q.0, q.4.terms.few, c.place_of-p.ensures.1), (c.place_of-p.ensures.1, fld-fits (goal.at.struct_written-term_written-requires t c).After-place_of-p, fld-room (goal.at.struct_written-term_written-requires t c).After-place_of-p, q.3, q.4, c.loop-j.invariant.3.room, (let l = q.0 in omega arith), c.loop-j.invariant.4))

pub struct_written-overflow_add-size : goal.struct_written-overflow_add-size
struct_written-overflow_add-size t c = omega (arith, fld-fits (goal.at.struct_written-overflow_add-size t c).After-place_of-p, fld-size (goal.at.struct_written-overflow_add-size t c).After-extent_in-e)

pub struct_written-overflow_add-count : goal.struct_written-overflow_add-count
struct_written-overflow_add-count t c = omega (arith, fld-room (goal.at.struct_written-overflow_add-count t c).After-place_of-p, fld-count (goal.at.struct_written-overflow_add-count t c).After-extent_in-e)

pub struct_written-loop-j-preserved : goal.struct_written-loop-j-preserved
struct_written-loop-j-preserved t c =
    let a = c.args in
    let l = c.loop-j in
    let same = fld-same (goal.at.struct_written-loop-j-preserved t c).After-place_of-p in
    let s = size_next a.f.now a.n a.number c.requires.4.terms a.off a.at c.requires.1 c.requires.2 l.j l.size l.count (fld-less (goal.at.struct_written-loop-j-preserved t c).After-place_of-p) l.invariant.0 l.invariant.1 in
    let m = count_next a.f.now a.n a.number c.requires.4.terms a.off a.at c.requires.1 c.requires.2 l.j l.size l.count (fld-less (goal.at.struct_written-loop-j-preserved t c).After-place_of-p) l.invariant.0 l.invariant.1 in (
      ap (λ (y : ℕ). l.size + y) (fld-size (goal.at.struct_written-loop-j-preserved t c).After-extent_in-e ∙ ap (λ (L : Layout variable). L.size) same) ∙ s ∙ ap (λ (y : ℕ). (before a.f.now a.n a.number y).size) (sym (add-one l.j)),
      ap (λ (y : ℕ). l.count + y) (fld-count (goal.at.struct_written-loop-j-preserved t c).After-extent_in-e ∙ ap (λ (L : Layout variable). count L) same) ∙ m ∙ ap (λ (y : ℕ). count (before a.f.now a.n a.number y)) (sym (add-one l.j)),
      written_same (ap (λ (y : ℕ). before a.f.now a.n a.number y) (sym (add-one l.j)))
          (written_field a.f.now a.n a.number c.requires.4.terms a.off a.at c.requires.1 c.requires.2 l.j l.size l.count (fld-less (goal.at.struct_written-loop-j-preserved t c).After-place_of-p) l.invariant.0 l.invariant.1
          (written_kept c.term_written.ensures.1 a.at (before a.f.now a.n a.number l.j) (omega (arith, l.invariant.1)) l.invariant.2)
          (written_same same c.term_written.ensures.0)),
      kept_kept c.term_written.ensures.1 a.at (omega arith) l.invariant.3,
      past_later (a.at + l.count + count (term_layout a.f.now a.number c.place_of-p.result)) (a.off + l.size + (term_layout a.f.now a.number c.place_of-p.result).size) c.term_written.ensures.2
          (omega (arith, fld-count (goal.at.struct_written-loop-j-preserved t c).After-extent_in-e)) (omega (arith, fld-size (goal.at.struct_written-loop-j-preserved t c).After-extent_in-e)),
    )

-- What is known of a struct that is at hand.
module _ {t : ℕ} (c : struct_written-Then-agree t) where
  hnd-past : PastOf c.args.f.now c.args.entries.now c.args.at c.args.off c.args.number c.in-Some.last
  hnd-past = c.requires.6.each c.args.number c.requires.0 c.in-Some.last c.in-Some.is

pub struct_written-overflow_sub-off : goal.struct_written-overflow_sub-off
struct_written-overflow_sub-off t c = omega (arith, (hnd-past (goal.at.struct_written-overflow_sub-off t c).Then-agree).nearer)

pub struct_written-shifted-requires : goal.struct_written-shifted-requires
struct_written-shifted-requires t c =
    let q = c.requires in
    let p = hnd-past (goal.at.struct_written-shifted-requires t c).Then-agree in
    let e = q.7 in (
      omega (arith, p.behind),
      omega (arith, q.2),
      q.5,
      λ i l. (let n = p.is.near i (omega arith) in (omega (arith, n.0, p.nearer, q.1), n.1)),
    )

pub struct_written-returns : goal.struct_written-returns
struct_written-returns t c =
    let a = c.args in
    let q = c.requires in
    let p = hnd-past (goal.at.struct_written-returns t c).Then-agree in
    let L = struct_layout a.f.now a.number in (
      written_off (let n = p.nearer in omega arith) (written_shifted L q.7 (agree_written L (c.agree.ensures c.if-agree.true) p.is) c.shifted.ensures),
      c.shifted.ensures.kept,
      past_later a.at a.off (past_kept a.at a.off q.6 c.shifted.ensures.kept (omega arith)) (omega arith) (omega arith),
    )

-- What is known of a struct once its fields are written.
module _ {t : ℕ} (c : struct_written-After-loop-j t) where
  end-fields : before c.args.f.now c.args.n c.args.number c.loop-j.j ≡ struct_layout c.args.f.now c.args.number
  end-fields =
      let a = c.args in
      let e : c.loop-j.j ≡ field_count a.f.now a.n a.number = (let b = ap (λ (x : Record). x.b) c.record_at-x.ensures in let h = c.loop-j-test.false in omega arith) in
      ap (before a.f.now a.n a.number) e ∙ sym (struct_fields a.f.now a.n a.number c.requires.4.terms)

  end-past : Past c.args.f.now c.loop-j.entries c.loop-j.seen (c.args.at + count (struct_layout c.args.f.now c.args.number)) (c.args.off + (struct_layout c.args.f.now c.args.number).size)
  end-past =
      let l = c.loop-j in
      past_later (c.args.at + l.count) (c.args.off + l.size) l.invariant.4
      (omega (arith, l.invariant.1, ap (λ (L : Layout variable). count L) end-fields)) (omega (arith, l.invariant.0, ap (λ (L : Layout variable). L.size) end-fields))

pub struct_written-returns-2 : goal.struct_written-returns-2
struct_written-returns-2 t c =
    let a = c.args in
    let q = c.requires in
    let l = c.loop-j in
    let L = struct_layout a.f.now a.number in
    let w = written_same (end-fields (goal.at.struct_written-returns-2 t c).After-loop-j) l.invariant.2 in
    (w, l.invariant.3, past_put a.number a.at a.to a.off (a.at + count L) (a.off + L.size) (end-past (goal.at.struct_written-returns-2 t c).After-loop-j) w (omega arith) (omega arith))

-- What is known of a term whose core is a struct, in plain names.
module _ {t : ℕ} (c : term_written-In-Fields t) where
  str-core : InStruct c.args.f.now c.args.p c.in-Fields.number c.in-Fields.regions
  str-core = subst (λ (x : Core). CoreIs c.args.f.now c.args.p x) (sym c.core_in.ensures ∙ c.in-Fields.is) (c.requires.4.cores c.args.p c.requires.0)

  str-fits : (term_layout c.args.f.now c.args.k c.args.p).size ≤ 256
  str-fits = let l = c.requires.1 in omega arith

  str-is : term_layout c.args.f.now c.args.k c.args.p ≡ sub_layout (arg (args_of c.in-Fields.regions 4)) (struct_layout c.args.f.now c.in-Fields.number)
  str-is = str-core.same c.args.k str-fits

  str-all : c.extent_in-all.result.count ≡ count (term_layout c.args.f.now c.args.k c.args.p)
  str-all = ap (λ (x : Extent). x.count) (c.extent_in-all.ensures ∙ c.requires.4.entries c.args.p c.requires.0 str-fits)

-- and of one whose core is the term at a place
module _ {t : ℕ} (c : term_written-After-head_of t) where
  abbrev trm-f : List ℕ
  trm-f = c.args.f.now

  abbrev trm-k : ℕ
  trm-k = c.args.k

  abbrev trm-p : ℕ
  trm-p = c.in-Term.c

  trm-core : CoreIs trm-f c.args.p (Term trm-p)
  trm-core = subst (λ (x : Core). CoreIs trm-f c.args.p x) (sym c.core_in.ensures ∙ c.in-Term.is) (c.requires.4.cores c.args.p c.requires.0)

  trm-low : trm-p ≤ c.args.n
  trm-low = let l = trm-core.0.low in omega (arith, c.requires.0)

  trm-same : term_layout trm-f trm-k c.args.p ≡ term_layout trm-f trm-k trm-p
  trm-same = trm-core.0.same trm-k (let l = c.requires.1 in omega arith)

  trm-fits : c.args.off + (term_layout trm-f trm-k trm-p).size ≤ 256
  trm-fits = subst (λ (L : Layout variable). c.args.off + L.size ≤ 256) trm-same c.requires.1

  trm-room : c.args.at + count (term_layout trm-f trm-k trm-p) ≤ 256
  trm-room = subst (λ (L : Layout variable). c.args.at + count L ≤ 256) trm-same c.requires.2

  trm-some : 0 < count (term_layout trm-f trm-k trm-p)
  trm-some =
      let e = ap (λ (x : Extent). x.count) (c.extent_in-all.ensures ∙ c.requires.4.entries c.args.p c.requires.0 (let l = c.requires.1 in omega arith)) ∙ ap (λ (L : Layout variable). count L) trm-same in
      let z = c.if-all-eq0.false in omega arith

-- which is an array
module _ {t : ℕ} (c : term_written-In-Arr t) where
  arr-head : head_of (trm-f (goal.at.term_written-In-Arr t c).After-head_of) (trm-p (goal.at.term_written-In-Arr t c).After-head_of) ≡ Arr c.in-Arr.count c.in-Arr.inner
  arr-head = sym c.head_of.ensures.0 ∙ c.in-Arr.is

  arr_is : term_layout (trm-f (goal.at.term_written-In-Arr t c).After-head_of) (trm-k (goal.at.term_written-In-Arr t c).After-head_of) (trm-p (goal.at.term_written-In-Arr t c).After-head_of) ≡ copies_of c.in-Arr.count (term_layout (trm-f (goal.at.term_written-In-Arr t c).After-head_of) (trm-k (goal.at.term_written-In-Arr t c).After-head_of) c.in-Arr.inner)
  arr_is = arr_layout (trm-f (goal.at.term_written-In-Arr t c).After-head_of) (trm-k (goal.at.term_written-In-Arr t c).After-head_of) (trm-p (goal.at.term_written-In-Arr t c).After-head_of) c.args.off 0 c.args.to _ _ arr-head (trm-fits (goal.at.term_written-In-Arr t c).After-head_of) (trm-some (goal.at.term_written-In-Arr t c).After-head_of)

pub term_written-struct_written-requires : goal.term_written-struct_written-requires
term_written-struct_written-requires t c =
    let a = c.args in
    let q = c.requires in
    let s = struct_size_law a.f.now a.k a.p a.off 0 a.to _ 4 _ (str-is (goal.at.term_written-struct_written-requires t c).In-Fields) in
    let m = struct_count a.f.now a.k a.p a.off 0 a.to _ 4 _ (str-is (goal.at.term_written-struct_written-requires t c).In-Fields) in
    let less = (str-core (goal.at.term_written-struct_written-requires t c).In-Fields).known a.k (str-fits (goal.at.term_written-struct_written-requires t c).In-Fields) in
    let some = c.if-all-eq0.false in (
      omega arith,
      (
        omega (arith, q.6),
        omega (arith, q.1),
        omega (arith, q.2),
        keeps_args a.to c.arguments-inside.result _ 4 (omega arith) c.arguments-inside.ensures,
        known_less a.f.now a.n _ a.k a.tab.now (omega arith) q.4,
        q.5,
        q.7,
        str-all (goal.at.term_written-struct_written-requires t c).In-Fields ∙ sym m,
        omega arith,
      ),
    )

pub term_written-copies_written-requires : goal.term_written-copies_written-requires
term_written-copies_written-requires t c =
    let q = c.requires in
    let L = term_layout (trm-f (goal.at.term_written-copies_written-requires t c).After-head_of) (trm-k (goal.at.term_written-copies_written-requires t c).After-head_of) c.in-Arr.inner in
    let n = c.in-Arr.count in
    let e = arr_is (goal.at.term_written-copies_written-requires t c).In-Arr in
    let s = ap (λ (M : Layout variable). M.size) e in
    let m = ap (λ (M : Layout variable). count M) e in
    let l = (fair_at (trm-p (goal.at.term_written-copies_written-requires t c).After-head_of) _ _ c.head_of.ensures.1 c.in-Arr.is).0 in
    let w = (trm-core (goal.at.term_written-copies_written-requires t c).After-head_of).0.low in (
      omega arith,
      (omega arith, omega (arith, trm-fits (goal.at.term_written-copies_written-requires t c).After-head_of, size_copies_of n L), omega (arith, trm-room (goal.at.term_written-copies_written-requires t c).After-head_of, count_copies_of n L), q.3, q.4, q.5, q.6, q.7),
    )

pub term_written-returns-in-Fields : goal.term_written-returns-in-Fields
term_written-returns-in-Fields t c =
    let a = c.args in (
      written_struct a.k a.p _ 4 _ (str-is (goal.at.term_written-returns-in-Fields t c).In-Fields) c.arguments-inside.result c.requires.3 c.arguments-inside.ensures c.struct_written.ensures.0,
      c.struct_written.ensures.1,
      (let s = struct_size_law a.f.now a.k a.p a.off 0 a.to _ 4 _ (str-is (goal.at.term_written-returns-in-Fields t c).In-Fields) in
          let m = struct_count a.f.now a.k a.p a.off 0 a.to _ 4 _ (str-is (goal.at.term_written-returns-in-Fields t c).In-Fields) in
          past_later _ _ c.struct_written.ensures.2 (omega (arith, m)) (omega (arith, s))),
    )

pub term_written-returns-in-Arr : goal.term_written-returns-in-Arr
term_written-returns-in-Arr t c = (
  written_same (sym (trm-same (goal.at.term_written-returns-in-Arr t c).After-head_of ∙ arr_is (goal.at.term_written-returns-in-Arr t c).In-Arr)) c.copies_written.ensures.0,
  c.copies_written.ensures.1,
  (let e = trm-same (goal.at.term_written-returns-in-Arr t c).After-head_of ∙ arr_is (goal.at.term_written-returns-in-Arr t c).In-Arr in
      let n = c.in-Arr.count in
      let L = term_layout (trm-f (goal.at.term_written-returns-in-Arr t c).After-head_of) (trm-k (goal.at.term_written-returns-in-Arr t c).After-head_of) c.in-Arr.inner in
      past_later (c.args.at + n * count L) (c.args.off + n * L.size) c.copies_written.ensures.2
      (omega (arith, ap (λ (M : Layout variable). count M) e, count_copies_of n L)) (omega (arith, ap (λ (M : Layout variable). M.size) e, size_copies_of n L))),
)

pub term_written-returns-in-Int : goal.term_written-returns-in-Int
term_written-returns-in-Int t c =
    let a = c.args in
    let at = (goal.at.term_written-returns-in-Int t c).After-head_of in
    let none : Bytes = replicate 8 0 in
    let e = sym c.head_of.ensures.0 ∙ c.in-Int.is in
    let room : a.at < 256 = omega (arith, trm-room at, trm-some at) in
    let w = put_single c.requires.5 a.at (trm-p at) none a.off (omega arith) a.f.now a.k _ (omega (arith, trm-low at, c.requires.4.terms.few)) (single_int a.f.now a.k (trm-p at) a.off 0 none _ e) in (
      written_same (sym (trm-same at)) (written_int a.k (trm-p at) _ e w.0),
      w.1,
      past_later a.at a.off (past_kept a.at a.off c.requires.7 w.1 (omega arith)) (omega arith) (omega arith),
    )

pub term_written-returns-in_default : goal.term_written-returns-in_default
term_written-returns-in_default t c =
    let a = c.args in
    let at = (goal.at.term_written-returns-in_default t c).After-head_of in
    let one = single_other a.f.now a.k (trm-p at) a.off 0 a.to _ (sym c.head_of.ensures.0) (subst NoStruct (sym c.head_of.ensures.0) (trm-core at).1) c.in_default.not-Arr in
    let room : a.at < 256 = omega (arith, trm-room at, trm-some at) in
    let w = put_single c.requires.5 a.at (trm-p at) a.to a.off (omega arith) a.f.now a.k _ (omega (arith, trm-low at, c.requires.4.terms.few)) one.1 in (
      written_same (sym (trm-same at)) w.0,
      w.1,
      past_later a.at a.off (past_kept a.at a.off c.requires.7 w.1 (omega arith)) (omega arith) (omega arith),
    )

pub term_written-returns-then-all-eq0 : goal.term_written-returns-then-all-eq0
term_written-returns-then-all-eq0 t c =
    let a = c.args in
    let e = ap (λ (x : Extent). x.count) (c.extent_in-all.ensures ∙ c.requires.4.entries a.p c.requires.0 (let l = c.requires.1 in omega arith)) in
    (written_none (term_layout a.f.now a.k a.p) (sym e ∙ c.if-all-eq0.true), kept_none a.at c.requires.5, past_later a.at a.off c.requires.7 (omega arith) (omega arith))
