-- The state test in document 01's words says, of a well-typed module, what the proof keeps from step to step: `Passes` is `Test` with
-- the length and the spare bytes. Only the pages' primitives are said otherwise. Assumes nothing.
use Rattle.std.specs.Prelude.{◌≡◌, refl, List, [], ◌∷◌, ℕ, zero, suc, ◌+◌, ◌*◌, ◌<◌, ◌≤◌, length}
use Rattle.std.proofs.Common.{sym, ap, ◌∙◌, subst, mul-le-mul_right, arith}
use Rattle.std.proofs.Math.Nat.{suc_inj}
use Rattle.words.specs.Bytes.{Bytes}
use Rattle.rules.specs.Limits.{pages, page_bytes, state_bytes}
use Rattle.words.specs.Decide.{Each, none, more}
use Rattle.rules.specs.Types.{RegionKind, live, Tree}
use Rattle.rules.specs.Module.{Module, Function, regions}
use Rattle.rules.specs.Flat.{Placed, at, Has, here, there, flat, size}
use Rattle.rules.specs.State.{View, view, SpareZero}
use Rattle.rules.specs.Heap.{Live, type_of}
use Rattle.rules.specs.StateTest.{FramesOk, PrimitiveOk, PageOk, ContentsOk, Passes}
use Rattle.layout.specs.Close.{size_close}
use Rattle.soundness.specs.Facts.{ModuleOk}
use Rattle.soundness.specs.Good.{Good, map_typed}
use Rattle.soundness.specs.Step.{Test}

-- a fact of each element is a fact of each primitive at its distance
each_has : {k : RegionKind} (P : Placed k → Type 0) {l : List (Placed k)} {d : ℕ} {T : Tree k} → Each P l → Has l d T → P (at d T)
each_has P (more h e) here = h
each_has P (more h e) (there i) = each_has P e i
each_has {k = k} P {d = d} {T = T} none x3 = elim x3 [ ]

has_each : {k : RegionKind} (P : Placed k → Type 0) (l : List (Placed k)) → ((d : ℕ) (T : Tree k) → Has l d T → P (at d T)) → Each P l
has_each P [] f = none
has_each P (at d T ∷ l) f = more (f d T here) (has_each P l (λ e U h. f e U (there h)))

module _ (m : Module) (ok : ModuleOk m) (v : View) (n : ℕ) where
  -- a live region's type has a size
  pub live_sized : FramesOk m v.fn v.pc v.map n → (r : ℕ) → Live m v.fn v.map n (suc r) → 0 < size m (type_of m v.fn v.map n r)
  live_sized s r l =
      let k : ℕ = l.frame in
      let f : Function = m.function (v.fn k) in
      let i : ℕ = f.region_params + l.local.index in
      let h : i < regions f = omega (arith, l.local.below) in
      let e : size m (type_of m v.fn v.map n r) ≡ size m (f.region_type i) =
      ap (λ (x : ℕ). size m (type_of m v.fn v.map n x)) (sym (suc_inj l.local.is)) ∙ ap (size m) (map_typed m ok v.fn v.pc v.map n s k i l.below h)
      ∙ size_close (v.map k) m (f.region_type i) in
      rw e ((ok.function (v.fn k) (s.known k l.below)).region_size i).0

  contents_good : FramesOk m v.fn v.pc v.map n → ContentsOk m v n → Good m v n
  contents_good s c = record {
    frames = s;
    in_range = c.in_range;
    owners = c.owners;
    marks = c.marks;
    registers = c.registers;
    slots = λ x q t.
        let r : ℕ = t.region in
        let T : Tree live = type_of m v.fn v.map n t.region in
        let l : Live m v.fn v.map n (suc t.region) = rw t.own at (c.owners t.page t.inside (rw t.own (omega arith))) in
        let one : 1 * suc t.place ≤ size m T * suc t.place = mul-le-mul_right (suc t.place) (live_sized s t.region l) in
        let p : PageOk m v n t.page (suc t.region) = subst (λ (y : ℕ). PageOk m v n t.page y) t.own (c.primitives t.page t.inside) in
        rw t.address (each_has (PrimitiveOk m v n t.page (flat m T) t.place) (p t.place (omega (arith, one, t.fits)) t.fits) t.has);
  }

  good_contents : Good m v n → ContentsOk m v n
  good_contents g = record {
    in_range = g.in_range;
    owners = g.owners;
    marks = g.marks;
    registers = g.registers;
    primitives = λ p h. page p h (v.owner p) refl;
  }
    where
      page : (p : ℕ) → p < pages → (x : ℕ) → v.owner p ≡ x → PageOk m v n p x
      page p h zero e = tt
      page p h (suc r) e = λ j l b.
          let T : Tree live = type_of m v.fn v.map n r in
          has_each (PrimitiveOk m v n p (flat m T) j) (flat m T).prims (λ d q c.
          g.slots (page_bytes * p + (size m T * j + d)) q
          (record { region = r; page = p; place = j; distance = d; inside = h; own = e; fits = b; has = c; address = refl }))

module _ (m : Module) (ok : ModuleOk m) (s : Bytes) where
  pub passes_test : Passes m s → Test m (view s)
  passes_test p = record {
    status = p.status;
    output = p.output;
    good = contents_good m ok (view s) (view s).frames p.frames p.contents;
    spare = p.spare;
  }

  pub test_passes : length s ≡ state_bytes → SpareZero s → Test m (view s) → Passes m s
  test_passes e z t = record {
    size = e;
    status = t.status;
    output = t.output;
    frames = t.good.frames;
    contents = good_contents m ok (view s) (view s).frames t.good;
    spare = t.spare;
    unread = z;
  }
