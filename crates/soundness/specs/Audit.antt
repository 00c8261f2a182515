-- The auditor's question: for a module that is accepted, and a form not seen yet, which bytes can a read reach? `reach`: a load's value
-- is decided by the run that its pointer's type names, whole inside one object of a live region in scope, or by its pointer's untyped
-- bytes, inside one page of a live untyped region in scope. `only_named_bytes`: over a whole run, page bytes bear on what it does, answers
-- and writes out through those alone. Both are proved in proofs/Audit. Assumes nothing.
use Rattle.std.specs.Prelude.{◌≡◌, ◌⊎◌, List, [], ◌∷◌}
use Rattle.std.proofs.Common.{sym, ap, ap₂, subst}
use Prim.Native.Nat.{ℕ, zero, suc, ◌+◌, ◌<◌, ◌≤◌}
use Rattle.words.specs.Bytes.{Bytes, AllBytes, byte_at}
use Rattle.rules.specs.Limits.{memory_bytes}
use Rattle.rules.specs.Types.{variable, Variable, Tree, ptr, raw_ptr}
use Rattle.rules.specs.Module.{Module}
use Rattle.rules.specs.State.{View, view, memory_place, memory_number}
use Rattle.rules.specs.Heap.{close}
use Rattle.rules.specs.Step.{Effect, assign, fetch, save, take_places, grant_page, free_place, go_to, emit, push, pop, finish, stop, stuck, effect_of}
use Rattle.rules.specs.Writes.{apply_state, apply_output}
use Rattle.rules.specs.Run.{Step, top_of, step_of, state_after, output_after, Trace}
use Rattle.rules.specs.SafeStep.{InRun, Touches, TouchesBytes, SameButPages, Reads}
use Rattle.state.specs.Independence.{view_pages}
use Rattle.soundness.specs.Facts.{ModuleOk}
use Rattle.soundness.specs.Sound.{top_frame}
use Rattle.soundness.specs.ForCode.{Steady, step_steady}

-- Address i lies in the run that the type of a load's pointer register names, in state v with top frame k; or in the bytes that an untyped
-- pointer register names.
pub record NamedRun (m : Module) (v : View) (k b x i : ℕ) : Type 0 where
  pub target : Tree variable
  pub within : Variable
  pub type : (m.function (v.fn k)).register_type b ≡ ptr target within
  pub inside : InRun m (close (v.map k) target) x i

pub record NamedBytes (m : Module) (v : View) (k b i : ℕ) : Type 0 where
  pub count : ℕ
  pub within : Variable
  pub type : (m.function (v.fn k)).register_type b ≡ raw_ptr count within
  pub inside : (v.reg k b ≤ i) × (i < v.reg k b + count)

abbrev pub NamedBy : Module → View → (k b x i : ℕ) → Type 0
NamedBy m v k b x i = NamedRun m v k b x i ⊎ NamedBytes m v k b i

-- the page bytes that an effect's pointer names: a load's
abbrev pub Named : Module → View → ℕ → Effect → ℕ → Type 0
Named m v k (assign a x) i = ⊥
Named m v k (fetch b a x w) i = NamedBy m v k b x i
Named m v k (save b x w y) i = ⊥
Named m v k (take_places p j c n a) i = ⊥
Named m v k (grant_page p r c a) i = ⊥
Named m v k (free_place p j) i = ⊥
Named m v k (go_to d) i = ⊥
Named m v k (emit x) i = ⊥
Named m v k (push g μ ρ) i = ⊥
Named m v k (pop c a x) i = ⊥
Named m v k (finish x) i = ⊥
Named m v k (stop n) i = ⊥
Named m v k stuck i = ⊥

-- two states agree on the page bytes that the next effect's pointer names
abbrev pub AgreeOnNamed : Module → (form t s : Bytes) → Type 0
AgreeOnNamed m form t s =
    (i : ℕ) → i < memory_bytes → Named m (view s) (top_frame s) (effect_of m form (view s)) i → byte_at t (memory_place i) ≡ byte_at s (memory_place i)

-- ---- one load

-- What a load through register b at address x of w bytes can reach: what the pointer's type names, inside one object or one untyped
-- page; and every state that agrees on it, whatever its other page bytes are, gives the same value.
pub record Reach (m : Module) (s : Bytes) (b x w : ℕ) : Type 0 where
  pub named : Touches m (view s) (top_frame s) b x w ⊎ TouchesBytes m (view s) (top_frame s) b x w
  pub decides : (t : Bytes) → ((i : ℕ) → i < memory_bytes → NamedBy m (view s) (top_frame s) b x i → byte_at t (memory_place i) ≡ byte_at s (memory_place i))
      → memory_number (view t).memory x w ≡ memory_number (view s).memory x w

-- ---- a whole run

unfoldable pub effects_of : List Step → List Effect
effects_of [] = []
effects_of (t ∷ ts) = t.effect ∷ effects_of ts

-- What is the same of two runs: the effects of their steps, what they write out, and all of the state but page bytes.
pub record SameRun (r q : Trace) : Type 0 where
  pub effects : effects_of r.steps ≡ effects_of q.steps
  pub output : r.output ≡ q.output
  pub state : SameButPages r.state q.state

-- Two runs in step, of the same form and output, from state s and from state t: before each step the two states agree on the page
-- bytes that its pointer names.
abbrev pub AgreeOnRun : Module → (form : Bytes) (budget : ℕ) (t s o : Bytes) → Type 0
AgreeOnRun m form zero t s o = Unit {0}
AgreeOnRun m form (suc b) t s o =
    (view s).status ≡ 0 → AgreeOnNamed m form t s × AgreeOnRun m form b (state_after m (step_of m form t o)) (state_after m (step_of m form s o)) (output_after (step_of m form s o))

module _ (m : Module) (ok : ModuleOk m) (form : Bytes) (form-bytes : AllBytes form) where
  -- one step of both
  pub record SameStep (t s o : Bytes) : Type 0 where
    pub effect : effect_of m form (view t) ≡ effect_of m form (view s)
    pub output : output_after (step_of m form t o) ≡ output_after (step_of m form s o)
    pub state : SameButPages (state_after m (step_of m form t o)) (state_after m (step_of m form s o))

  -- that agree on the bytes that the step reads
  pub same_reads : (t s o : Bytes) → Steady m s → (view s).status ≡ 0 → SameButPages t s
      → ((i : ℕ) → i < memory_bytes → Reads (effect_of m form (view s)) i → byte_at t (memory_place i) ≡ byte_at s (memory_place i)) → SameStep t s o
  same_reads t s o h z p g =
      let k = (step_steady m ok form form-bytes s o h z).safe in
      let e : effect_of m form (view t) ≡ effect_of m form (view s) = k.decides t p in
      let fr : (view t).frames ≡ (view s).frames = ap (λ (v : View). v.frames) (view_pages t s p) in
      let n : (view t).output_count ≡ (view s).output_count = ap (λ (v : View). v.output_count) (view_pages t s p) in
      record {
        effect = e;
        output = ap₂ (λ (c : ℕ) (x : Effect). apply_output c x o) n e;
        state = subst (λ (x : Bytes). SameButPages x (state_after m (step_of m form s o)))
            (ap₂ (λ (i : ℕ) (x : Effect). apply_state m (top_of i) x t) (sym fr) (sym e))
            (k.reads t p g);
      }
