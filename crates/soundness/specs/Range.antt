-- Which pages a safe effect touches: what it loads, stores or clears lies in pages that are owned or granted by it, and these are in the
-- state's range. Assumes nothing.
use Rattle.std.specs.Prelude.{◌≡◌, ◌⊎◌, ◌≢◌, ℕ, suc, ◌+◌, ◌/◌, ◌<◌, ◌≤◌}
use Rattle.std.proofs.Common.{sym, ap, ◌∙◌, subst, inl, inr, arith}
use Rattle.rules.specs.Limits.{page_bytes, memory_bytes}
use Rattle.rules.specs.Module.{Module}
use Rattle.rules.specs.Flat.{size}
use Rattle.rules.specs.State.{InRange, View}
use Rattle.rules.specs.Heap.{close}
use Rattle.rules.specs.Step.{Effect}
use Rattle.rules.specs.Footprint.{footprint, Within}
use Rattle.rules.specs.SafeStep.{Touches, TouchesBytes, Reads, Changes}
use Rattle.layout.specs.Flat.{flat_inside}
use Rattle.layout.specs.Close.{size_close}
use Rattle.state.specs.Touched.{load_of, store_of, by_take, by_grant, clear_of}
use Rattle.soundness.specs.Good.{Good}
use Rattle.soundness.specs.Safe.{Safe}

pub touched_owned : (m : Module) (v : View) (k b x w i : ℕ) → Touches m v k b x w ⊎ TouchesBytes m v k b x w → x ≤ i → i < x + w → v.owner (i / page_bytes) ≢ 0
touched_owned m v k b x w i (inl t) l h z =
    let r = t.bytes i l h in
    let inside : r.distance + _ ≤ size m (close (v.map k) t.target) = flat_inside m (close (v.map k) t.target) r.has in
    let o = t.object i l (omega (arith, r.high, inside, size_close (v.map k) m t.target)) in
    let same : i / page_bytes ≡ v.reg k b / page_bytes = omega (arith, o.low, o.high, o.whole, t.address) in
    let own : v.owner (i / page_bytes) ≡ suc (v.map k t.within.number) = ap v.owner same ∙ t.names.run.own in
    omega arith
touched_owned m v k b x w i (inr t) l h z =
    let r = t.bytes i l h in
    let same : i / page_bytes ≡ v.reg k b / page_bytes = omega (arith, r.0, r.1, t.names.bytes.fits) in
    let own : v.owner (i / page_bytes) ≡ suc (v.map k t.within.number) = ap v.owner same ∙ t.names.bytes.own in
    omega arith

module _ (m : Module) (v : View) (k : ℕ) (good : Good m v (suc k)) (e : Effect) (safe : Safe m v k e) (i : ℕ) (inside : i < memory_bytes) where
  owned_range : v.owner (i / page_bytes) ≢ 0 → InRange v.range (i / page_bytes)
  owned_range o = good.in_range (i / page_bytes) (omega arith) (omega arith)

  cleared_range : Within (footprint e).clears i → InRange v.range (i / page_bytes)
  cleared_range h = elim (clear_of e i h) [
    | by_take p j c n a d w ↦
        let f = subst (λ (x : Effect). Safe m v k x) d safe in
        let at : i / page_bytes ≡ p = omega (arith, w, f.fits) in
        owned_range (λ z. let own = f.own in let page : v.owner p ≡ 0 = ap v.owner (sym at) ∙ z in omega arith)
    | by_grant p r c a d w ↦
        let f = subst (λ (x : Effect). Safe m v k x) d safe in
        let at : i / page_bytes ≡ p = omega (arith, w) in
        rw at f.in_range
  ]

  pub touched_range : Reads e i ⊎ Changes e i → InRange v.range (i / page_bytes)
  touched_range (inl r) =
      let l = load_of e i r in
      owned_range (touched_owned m v k l.through l.address l.bytes i (subst (λ (x : Effect). Safe m v k x) l.is safe).touches l.low l.high)
  touched_range (inr (inl w)) =
      let l = store_of e i w in
      owned_range (touched_owned m v k l.through l.address l.bytes i (subst (λ (x : Effect). Safe m v k x) l.is safe).touches l.low l.high)
  touched_range (inr (inr c)) = cleared_range c
