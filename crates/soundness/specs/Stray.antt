-- The number of stray bytes of safe steps is zero: each byte that a load or store touches lies in the value that its pointer names.
-- Assumes nothing.
use Rattle.std.specs.Prelude.{◌≡◌, ◌⊎◌, List, [], ◌∷◌}
use Rattle.std.proofs.Math.Path.{refl}
use Rattle.std.proofs.Math.Bool.{cond}
use Rattle.std.proofs.Common.{inl, inr, arith}
use Prim.Native.Nat.{ℕ, zero, suc, ◌+◌, ◌<◌, ◌≤◌}
use Rattle.words.specs.Choose.{cond_yes}
use Rattle.words.specs.Decide.{does, true_does}
use Rattle.rules.specs.Module.{Module}
use Rattle.rules.specs.State.{View, view}
use Rattle.rules.specs.Step.{Effect, assign, fetch, save, take_places, grant_page, free_place, go_to, emit, push, pop, finish, stop, stuck}
use Rattle.rules.specs.Run.{Step}
use Rattle.rules.specs.SafeStep.{Touches, TouchesBytes, InValue, dec_in_value, stray_from, stray_by, stray_bytes, AllSafe}

module _ (m : Module) (v : View) (k : ℕ) where
  touched_in : (b x w : ℕ) → Touches m v k b x w ⊎ TouchesBytes m v k b x w → (i : ℕ) → x ≤ i → i < x + w → InValue m v k b i
  touched_in b x w (inl t) i low high = inl (record { target = t.target; within = t.within; names = t.names; byte = rw t.address (t.bytes i low high) })
  touched_in b x w (inr t) i low high = inr (record { count = t.count; within = t.within; names = t.names; byte = t.bytes i low high })

  none_from : (b x w : ℕ) → ((i : ℕ) → x ≤ i → i < x + w → InValue m v k b i) → stray_from m v k b x w ≡ 0
  unfolding stray_from
  none_from b x zero h = refl
  none_from b x (suc w) h =
      let a : cond {A = ℕ} (does (dec_in_value m v k b (x + w))) 0 1 ≡ 0 = cond_yes 0 1 (true_does (dec_in_value m v k b (x + w)) (h (x + w) (omega arith) (omega arith))) in
      omega (arith, none_from b x w (λ i low high. h i low (omega arith)))

  none_by : (e : Effect) → ((b a x w : ℕ) → e ≡ fetch b a x w → Touches m v k b x w ⊎ TouchesBytes m v k b x w)
      → ((b x w y : ℕ) → e ≡ save b x w y → Touches m v k b x w ⊎ TouchesBytes m v k b x w) → stray_by m v k e ≡ 0
  unfolding stray_from
  none_by (assign a x) l s = refl
  none_by (fetch b a x w) l s = omega (arith, none_from b x w (touched_in b x w (l b a x w refl)))
  none_by (save b x w y) l s = omega (arith, none_from b x w (touched_in b x w (s b x w y refl)))
  none_by (take_places p j c n a) l s = refl
  none_by (grant_page p r c a) l s = refl
  none_by (free_place p j) l s = refl
  none_by (go_to d) l s = refl
  none_by (emit x) l s = refl
  none_by (push g μ ρ) l s = refl
  none_by (pop c a x) l s = refl
  none_by (finish x) l s = refl
  none_by (stop n) l s = refl
  none_by stuck l s = refl

pub stray_none : (m : Module) (ts : List Step) → AllSafe m ts → stray_bytes m ts ≡ 0
unfolding stray_bytes
stray_none m [] h = refl
stray_none m (t ∷ ts) h = omega (arith, none_by m (view t.state) t.top t.effect h.0.loads h.0.stores, stray_none m ts h.1)
