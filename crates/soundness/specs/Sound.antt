-- Demand 3 over runs: each step is safe, the state test holds after it, and the pages add up. Assumes nothing.
use Rattle.std.specs.Prelude.{◌≡◌, Bool, ◌≢◌, List, [], ◌∷◌, ◌++◌}
use Rattle.std.proofs.Math.Path.{refl, subst}
use Rattle.std.proofs.Common.{sym, ap, ◌∙◌, not-suc-le-zero, arith, eqb-true}
use Rattle.std.proofs.Math.Bool.{true, false}
use Prim.Native.Nat.{ℕ, zero, suc, ◌+◌, ◌<◌}
use Rattle.std.proofs.Math.Dec.{eqb}
use Rattle.words.specs.Bytes.{Bytes, AllBytes}
use Rattle.rules.specs.Module.{Module}
use Rattle.rules.specs.State.{View, view}
use Rattle.rules.specs.Step.{Effect, assign, fetch, save, take_places, grant_page, free_place, go_to, emit, push, pop, finish, stop, stuck, effect_at, effect_of, handed_back_by}
use Rattle.rules.specs.Footprint.{footprint}
use Rattle.rules.specs.Run.{Step, top_of, step_of, state_after, output_after, Trace, no_steps, run_of, is_stuck, stuck_steps}
use Rattle.rules.specs.StateTest.{StatusOk, running, stopped, ended, SpareOk}
use Rattle.rules.specs.SafeStep.{SafeStep, AllSafe, AllRanged}
use Rattle.rules.specs.Calls.{owned, granted, handed_back}
use Rattle.rules.specs.declared.PageRange.{PageRange}
use Rattle.state.specs.Apply.{apply}
use Rattle.state.specs.Reads.{memory_lt}
use Rattle.state.specs.Effects.{Bounded, view_apply}
use Rattle.state.specs.Whole.{Whole, whole_apply}
use Rattle.state.specs.Independence.{decides_law, reads_law}
use Rattle.state.proofs.Independence.{keeps_law, clears_law}
use Rattle.soundness.specs.Facts.{ModuleOk}
use Rattle.soundness.specs.Good.{Good}
use Rattle.soundness.specs.Safe.{Safe}
use Rattle.soundness.specs.Progress.{progress}
use Rattle.soundness.specs.Objects.{new_taken, new_zero, free_kept, used_kept, used_stays}
use Rattle.soundness.specs.Range.{touched_range}
use Rattle.soundness.specs.Step.{Test, fetched, pages_step, preserve, ended_none}
use Rattle.soundness.specs.Bounds.{bounded}
use Rattle.soundness.specs.Bridge.{test_passes}

-- the top frame of a state
abbrev pub top_frame : Bytes → ℕ
top_frame s = top_of (view s).frames

-- no safe effect is stuck
not_stuck : (m : Module) (v : View) (k : ℕ) (e : Effect) → Safe m v k e → e ≢ stuck
not_stuck m v k e f h = subst (λ (x : Effect). Safe m v k x) h f

stuck_none : (m : Module) (v : View) (k : ℕ) (e : Effect) → Safe m v k e → is_stuck e ≡ 0
stuck_none m v k (assign a x) f = refl
stuck_none m v k (fetch b a x w) f = refl
stuck_none m v k (save b x w y) f = refl
stuck_none m v k (take_places p j c n a) f = refl
stuck_none m v k (grant_page p r c a) f = refl
stuck_none m v k (free_place p j) f = refl
stuck_none m v k (go_to d) f = refl
stuck_none m v k (emit x) f = refl
stuck_none m v k (push g μ ρ) f = refl
stuck_none m v k (pop c a x) f = refl
stuck_none m v k (finish x) f = refl
stuck_none m v k (stop i) f = refl
stuck_none m v k stuck f = absurd f

-- no effect changes the range
range_apply : (m : Module) (k : ℕ) (e : Effect) (v : View) → (apply m k e v).range ≡ v.range
range_apply m k (assign a x) v = refl
range_apply m k (fetch b a x w) v = refl
range_apply m k (save b x w y) v = refl
range_apply m k (take_places p j c n a) v = refl
range_apply m k (grant_page p r c a) v = refl
range_apply m k (free_place p j) v = refl
range_apply m k (go_to d) v = refl
range_apply m k (emit x) v = refl
range_apply m k (push g μ ρ) v = refl
range_apply m k (pop c a x) v = refl
range_apply m k (finish x) v = refl
range_apply m k (stop i) v = refl
range_apply m k stuck v = refl

pub status_going : (v : View) → StatusOk v → v.status ≡ 0 → (0 < v.frames) × (v.result ≡ 0)
status_going v (running a b c) e = (b, c)
status_going v (stopped a b c) e = (b, c)
status_going v (ended a b) e = absurd (omega arith)

status_ended : (v : View) → StatusOk v → v.status ≡ 1 → v.frames ≡ 0
status_ended v (running a b c) e = absurd (omega arith)
status_ended v (stopped a b c) e = absurd (omega (arith, a.low))
status_ended v (ended a b) e = b

-- "and this is zero once the module has ended"
pub ended_owned : (m : Module) (s : Bytes) → Test m (view s) → (view s).status ≡ 1 → owned s ≡ 0
ended_owned m s t e = ended_none m (view s) (subst (λ (n : ℕ). Good m (view s) n) (status_ended (view s) t.status e) t.good)

top_suc : (n : ℕ) → 0 < n → n ≡ suc (top_of n)
top_suc zero h = absurd (not-suc-le-zero h)
top_suc (suc n) h = refl

-- of a trace from state s
pub record Sound (m : Module) (s : Bytes) (r : Trace) : Type 0 where
  pub steps : AllSafe m r.steps
  pub none : stuck_steps r.steps ≡ 0
  pub test : Test m (view r.state)
  pub whole : Whole r.state
  pub ranged : AllRanged (view s).range r.steps
  pub range : (view r.state).range ≡ (view s).range
  pub pages : owned r.state + handed_back m r.steps ≡ owned s + granted r.steps

module _ (m : Module) (ok : ModuleOk m) where
  -- what is known of a running state that passes the test: its top frame, the next effect, and that it is safe and in bounds
  pub record Ready (form s : Bytes) : Type 0 where
    pub frame : (view s).frames ≡ suc (top_frame s)
    pub result : (view s).result ≡ 0
    pub good : Good m (view s) (suc (top_frame s))
    pub spare : SpareOk m (view s) (suc (top_frame s))
    pub safe : Safe m (view s) (top_frame s) (effect_of m form (view s))
    pub bounds : Bounded (view s) (top_frame s) (effect_of m form (view s))

  pub ready : (form s : Bytes) → AllBytes form → Test m (view s) → (view s).status ≡ 0 → Ready form s
  unfolding effect_of
  ready form s b t z =
      let going = status_going (view s) t.status z in
      let fr : (view s).frames ≡ suc (top_frame s) = top_suc (view s).frames going.0 in
      let g : Good m (view s) (suc (top_frame s)) = subst (λ (n : ℕ). Good m (view s) n) fr t.good in
      let f : Safe m (view s) (top_frame s) (effect_of m form (view s)) =
      subst (λ (n : ℕ). Safe m (view s) (top_frame s) (effect_at m form (view s) n)) (sym fr) (progress m ok form b (view s) (top_frame s) g) in
      record {
        frame = fr;
        result = going.1;
        good = g;
        spare = subst (λ (n : ℕ). SpareOk m (view s) n) fr t.spare;
        safe = f;
        bounds = bounded m ok (view s) (top_frame s) g t.output (effect_of m form (view s)) f;
      }

  pub record Stepped (form s o : Bytes) : Type 0 where
    pub safe : SafeStep m (step_of m form s o)
    pub moving : is_stuck (effect_of m form (view s)) ≡ 0
    pub test : Test m (view (state_after m (step_of m form s o)))
    pub whole : Whole (state_after m (step_of m form s o))
    pub range : (view (state_after m (step_of m form s o))).range ≡ (view s).range
    pub pages : owned (state_after m (step_of m form s o)) + handed_back_by m (view s) (top_frame s) (effect_of m form (view s)) ≡ owned s + (footprint (effect_of m form (view s))).grants

  pub stepped : (form s o : Bytes) → AllBytes form → Test m (view s) → Whole s → (view s).status ≡ 0 → Stepped form s o
  stepped form s o b t w z =
      let r = ready form s b t z in
      let f : Safe m (view s) (top_frame s) (effect_of m form (view s)) = r.safe in
      let small : (i : ℕ) → (view s).memory i < 256 = memory_lt s w.bytes in
      let after = view_apply m s w.size w.bytes (top_frame s) (effect_of m form (view s)) r.bounds in
      let test : Test m (view (state_after m (step_of m form s o))) =
      rw after (preserve m ok (view s) small (top_frame s) (effect_of m form (view s)) r.frame z r.result t.output r.good r.spare f) in
      let keeps = keeps_law m s w.size w.bytes (top_frame s) (effect_of m form (view s)) r.bounds in
      let clears = clears_law m s w.size w.bytes (top_frame s) (effect_of m form (view s)) r.bounds in
      let held : Whole (state_after m (step_of m form s o)) = whole_apply m s (top_frame s) (effect_of m form (view s)) r.bounds w in
      record {
        safe = record {
          frame = r.frame;
          is = refl;
          moves = not_stuck m (view s) (top_frame s) (effect_of m form (view s)) f;
          stops = λ n d. subst (λ (u : Effect). Safe m (view s) (top_frame s) u) d f;
          loads = λ b a y w d. (subst (λ (u : Effect). Safe m (view s) (top_frame s) u) d f).touches;
          stores = λ b y w u d. (subst (λ (u : Effect). Safe m (view s) (top_frame s) u) d f).touches;
          fetches = λ b a y w d.
              let g = subst (λ (u : Effect). Safe m (view s) (top_frame s) u) d f in
              record { register = g.register; value = fetched m (view s) (top_frame s) b a y w small r.good g };
          decides = λ y h. decides_law m form y s h;
          reads = λ y h q. reads_law m (top_frame s) y s h (effect_of m form (view s)) q;
          keeps = keeps;
          taken = new_taken m (step_of m form s o) r.frame f r.good after;
          zeros = new_zero m (step_of m form s o) r.frame f r.good clears;
          free = free_kept m (step_of m form s o) r.frame f r.good keeps;
          used = used_kept m (step_of m form s o) r.frame f r.good keeps;
          stays = used_stays m (step_of m form s o) r.frame f r.good after;
          after = test_passes m ok (state_after m (step_of m form s o)) held.size held.spare test;
          own_pages = λ i l. touched_range m (view s) (top_frame s) r.good (effect_of m form (view s)) f i l;
        };
        moving = stuck_none m (view s) (top_frame s) (effect_of m form (view s)) f;
        test = test;
        whole = held;
        range = ap (λ (v : View). v.range) after ∙ range_apply m (top_frame s) (effect_of m form (view s)) (view s);
        pages = rw after (pages_step m (view s) (top_frame s) (effect_of m form (view s)) f);
      }

  pub stay : (s o : Bytes) → Test m (view s) → Whole s → Sound m s (no_steps s o)
  unfolding stuck_steps granted handed_back
  stay s o t w = record { steps = tt; none = refl; test = t; whole = w; ranged = tt; range = refl; pages = refl }

  pub run_sound : (form : Bytes) → AllBytes form → (b : ℕ) (s o : Bytes) → Test m (view s) → Whole s → Sound m s (run_of m form b s o)
  unfolding run_of stuck_steps granted handed_back
  run_sound form c zero s o t w = stay s o t w
  run_sound form c (suc b) s o t w = go (eqb (view s).status 0) refl (λ y u p q. run_sound form c b y u p q)
    where
      go : (d : Bool) → eqb (view s).status 0 ≡ d → ((y u : Bytes) → Test m (view y) → Whole y → Sound m y (run_of m form b y u))
          → Sound m s (elim d as (λ _. Trace) [
            | true ↦
                let t : Step = step_of m form s o in
                let r : Trace = run_of m form b (state_after m t) (output_after t) in
                record { steps = t ∷ r.steps; state = r.state; output = r.output }
            | false ↦ no_steps s o
          ])
      go true e ih =
          let p = stepped form s o c t w (eqb-true (view s).status 0 e) in
          let q = ih (state_after m (step_of m form s o)) (output_after (step_of m form s o)) p.test p.whole in
          record {
            steps = (p.safe, q.steps);
            none = omega (arith, p.moving, q.none);
            test = q.test;
            whole = q.whole;
            ranged = (refl, rw p.range at q.ranged);
            range = q.range ∙ p.range;
            pages = omega (arith, p.pages, q.pages);
          }
      go false e ih = stay s o t w

-- ---- lists of steps

pub safe_append : (m : Module) (a b : List Step) → AllSafe m a → AllSafe m b → AllSafe m (a ++ b)
safe_append m [] b p q = q
safe_append m (t ∷ a) b p q = (p.0, safe_append m a b p.1 q)

pub ranged_append : (R : PageRange) (a b : List Step) → AllRanged R a → AllRanged R b → AllRanged R (a ++ b)
ranged_append R [] b p q = q
ranged_append R (t ∷ a) b p q = (p.0, ranged_append R a b p.1 q)

pub stuck_append : (a b : List Step) → stuck_steps (a ++ b) ≡ stuck_steps a + stuck_steps b
unfolding stuck_steps
stuck_append [] b = omega arith
stuck_append (t ∷ a) b = omega (arith, stuck_append a b)

pub granted_append : (a b : List Step) → granted (a ++ b) ≡ granted a + granted b
unfolding granted
granted_append [] b = omega arith
granted_append (t ∷ a) b = omega (arith, granted_append a b)

pub handed_append : (m : Module) (a b : List Step) → handed_back m (a ++ b) ≡ handed_back m a + handed_back m b
unfolding handed_back
handed_append m [] b = omega arith
handed_append m (t ∷ a) b = omega (arith, handed_append m a b)
