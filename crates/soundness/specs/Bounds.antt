-- A safe effect of a good state keeps within the layout's bounds, so the bytes that it leaves are those of the view after it.
-- Assumes nothing.
use Rattle.std.specs.Prelude.{◌≡◌, ℕ, suc, ◌+◌, ◌-◌, ◌^◌, ◌<◌, ◌≤◌}
use Rattle.std.proofs.Common.{◌∙◌, subst, ⊎_elim, le_trans, arith}
use Rattle.std.proofs.Math.Nat.{pow-le-pow_right, suc_inj}
use Rattle.std.proofs.Math.Decide.{dec_lt}
use Rattle.rules.specs.Limits.{memory_bytes, live_regions, output_bytes}
use Rattle.rules.specs.Types.{live, Tree, region, width, arg}
use Rattle.rules.specs.Module.{Module, argument}
use Rattle.rules.specs.State.{View}
use Rattle.rules.specs.Heap.{close, Live, HeapTyping, heap_typing, Value}
use Rattle.rules.specs.Step.{Effect, assign, fetch, save, take_places, grant_page, free_place, go_to, emit, push, pop, finish, stop, stuck}
use Rattle.layout.specs.Close.{close_width}
use Rattle.layout.specs.Heap.{Slot, value_bound, slot_inside}
use Rattle.state.specs.Effects.{Onward, InRegister, Bounded}
use Rattle.soundness.specs.Facts.{ModuleOk}
use Rattle.soundness.specs.Good.{Good, map_numbered}
use Rattle.soundness.specs.Preserve.{SafePush}
use Rattle.soundness.specs.Safe.{Next, UntypedByte, SafeFetch, SafeSave, Safe}

module _ (m : Module) (ok : ModuleOk m) (v : View) (k : ℕ) (g : Good m v (suc k)) where
  -- a value of a register of frame j is a number of four bytes
  register_value : (W : HeapTyping) (j a x : ℕ) → j < suc k → a < (m.function (v.fn j)).registers
      → Value m W (close (v.map j) ((m.function (v.fn j)).register_type a)) x → x < 256 ^ 4
  register_value W j a x l h y =
      let T = (m.function (v.fn j)).register_type a in
      let wide : width (close (v.map j) T) ≤ 4 = rw (close_width (v.map j) T) ((ok.function (v.fn j) (g.frames.known j l)).register_width a h).1 in
      le_trans (value_bound m W (close (v.map j) T) x y) (pow-le-pow_right {n = 256} (omega arith) wide)

  held : (W : HeapTyping) (j a x : ℕ) → j < suc k → a < (m.function (v.fn j)).registers
      → Value m W (close (v.map j) ((m.function (v.fn j)).register_type a)) x → InRegister a x
  held W j a x l h y = record {
    register = omega (arith, h, (ok.function (v.fn j) (g.frames.known j l)).ranges.registers);
    value = register_value W j a x l h y;
  }

  next_small : (j : ℕ) → j < suc k → suc (v.pc j) < (m.function (v.fn j)).code_length → suc (v.pc j) < 65536
  next_small j l h = omega (arith, h, (ok.function (v.fn j) (g.frames.known j l)).ranges.instructions)

  onward : Next m v k → Onward v k
  onward h = record { frame = g.frames.few; next = next_small k (omega arith) h }

  -- a live region's number
  pub live_small : (r : ℕ) → Live m v.fn v.map (suc k) (suc r) → r < live_regions
  live_small r l = rw (← suc_inj l.local.is) (g.frames.numbered l.frame l.below l.local.index l.local.below)

  module _ (h : ℕ) (μ ρ : ℕ → ℕ) (f : SafePush m v k h μ ρ) where
    push_region : (i : ℕ) → μ i < 256
    push_region i = go (dec_lt i p) (dec_lt i (p + (m.function h).locals))
      where
        p : ℕ
        p = (m.function h).region_params

        go : Dec (i < p) → Dec (i < p + (m.function h).locals) → μ i < 256
        go (yes l) _ =
            let x = map_numbered m ok v.fn v.pc v.map (suc k) g.frames k (arg f.regions (region i)).number (omega arith) (f.rule.scope i l) in
            rw (f.through i l) (omega (arith, x))
        go (no n) (yes l) = let e : p + (i - p) ≡ i = omega arith in subst (λ (x : ℕ). μ x < 256) e (let x = f.numbered (i - p) (omega arith) in omega (arith, x))
        go (no n) (no l) = rw (f.spare i (omega arith)) (omega arith)

    push_value : (a : ℕ) → ρ a < 256 ^ 4
    push_value a = go (dec_lt a (m.function h).params)
      where
        go : Dec (a < (m.function h).params) → ρ a < 256 ^ 4
        go (yes l) =
            let x : ℕ = argument f.arguments a in
            rw (f.values a l) (register_value (heap_typing m v (suc k)) k x (v.reg k x) (omega arith) (f.rule.arguments a l).0 (g.registers k (omega arith) x (f.rule.arguments a l).0))
        go (no n) = rw (f.zeros a (omega arith)) (omega arith)

  -- what is loaded and stored lies in the pages
  slot_in : (x w : ℕ) (T : Tree live) → w ≡ width T → Slot m (heap_typing m v (suc k)) x T → x + w ≤ memory_bytes
  slot_in x w T e s = omega (arith, e, slot_inside m (heap_typing m v (suc k)) x T s, s.address, s.fits, s.inside)

  byte_in : (x w : ℕ) → UntypedByte m v k x w → x + w ≤ memory_bytes
  byte_in x w s = omega (arith, s.inside.inside, s.inside.fits, s.below, s.address, s.one)

  pub load_inside : (b a x w : ℕ) → SafeFetch m v k b a x w → x + w ≤ memory_bytes
  load_inside b a x w f = ⊎_elim (slot_in x w (close (v.map k) ((m.function (v.fn k)).register_type a)) f.bytes) (λ s. byte_in x w s.1) f.from

  store_inside : (b x w y : ℕ) → SafeSave m v k b x w y → x + w ≤ memory_bytes
  store_inside b x w y f = ⊎_elim (λ s. slot_in x w s.type s.bytes s.slot) (byte_in x w) f.what

  pub bounded : v.output_count ≤ output_bytes → (e : Effect) → Safe m v k e → Bounded v k e
  bounded o (assign a x) f = (onward f.next, held (heap_typing m v (suc k)) k a x (omega arith) f.register f.value)
  bounded o (fetch b a x w) f =
      let facts = ok.function (v.fn k) (g.frames.known k (omega arith)) in (
        onward f.next,
        (
          omega (arith, f.register, facts.ranges.registers),
          rw (f.bytes ∙ close_width (v.map k) ((m.function (v.fn k)).register_type a)) (facts.register_width a f.register).1,
        ),
      )
  bounded o (save b x w y) f = (onward f.next, store_inside b x w y f)
  bounded o (take_places p j c n a) f =
      let facts = ok.function (v.fn k) (g.frames.known k (omega arith)) in (
        onward f.register.next,
        record { page = f.inside; places = f.places; bytes = f.fits; register = omega (arith, f.register.register, facts.ranges.registers) },
      )
  bounded o (grant_page p r c a) f =
      let facts = ok.function (v.fn k) (g.frames.known k (omega arith)) in (
        onward f.register.next,
        record {
          page = f.inside;
          owner = omega (arith, live_small r f.alive);
          places = f.places;
          register = omega (arith, f.register.register, facts.ranges.registers);
        },
      )
  bounded o (free_place p j) f = (onward f.next, record { page = f.inside; place = f.place })
  bounded o (go_to d) f = (g.frames.few, omega (arith, f, (ok.function (v.fn k) (g.frames.known k (omega arith))).ranges.instructions))
  bounded o (emit x) f = (onward f.0, omega (arith, f.1))
  bounded o (push h μ ρ) f =
      let facts = ok.function h f.rule.known in
      record {
        frame = f.room;
        function = omega (arith, f.rule.known, ok.few);
        regions = push_region h μ ρ f;
        no_region = λ i l. f.spare i (omega (arith, facts.ranges.regions));
        values = push_value h μ ρ f;
        no_register = λ a l. f.zeros a (omega (arith, facts.ranges.few_params, facts.ranges.registers));
      }
  bounded o (pop c a x) f =
      let below : c < suc k = omega (arith, f.caller) in
      record {
        frame = g.frames.few;
        caller = omega (arith, f.caller);
        next = next_small c below f.next;
        held = held (heap_typing m v (suc k)) c a x below f.register f.value;
      }
  bounded o (finish x) f = (g.frames.few, f.1)
  bounded o (stop n) f = omega (arith, f.high)
  bounded o stuck f = absurd f
