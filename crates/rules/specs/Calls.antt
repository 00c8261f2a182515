-- Lists of calls of going on, as demand 3 speaks of them: where a list starts and what it is lent, its steps and the state that it leaves,
-- what each call answers, and the pages that its steps grant and hand back. Assumes nothing.
use Rattle.std.specs.Prelude.{◌≡◌, cond, ◌⊎◌, List, [], ◌∷◌, ◌++◌, ℕ, zero, suc, ◌+◌, eqb, length}
use Rattle.words.specs.Bytes.{Bytes, AllBytes}
use Rattle.rules.specs.Limits.{pages}
use Rattle.rules.specs.Module.{Module}
use Rattle.rules.specs.Decode.{module_of}
use Rattle.rules.specs.State.{view}
use Rattle.rules.specs.Step.{handed_back_by}
use Rattle.rules.specs.Footprint.{footprint}
use Rattle.rules.specs.Run.{Step, state_after, output_after, Trace}
use Rattle.rules.specs.Host.{Outcome, Went, refused, went, opened, passed, go_at, trace_at, open_at, test_at, left_state}
use Rattle.rules.specs.declared.PageRange.{PageRange}

-- ---- a list of calls

-- A call of going on: file, form and output as lent, and the budget.
pub record Call : Type 0 where
  pub file : Bytes
  pub form : Bytes
  pub output : Bytes
  pub budget : ℕ
  pub form_bytes : AllBytes form

-- The steps of one call with its form, from state s and output o to state t and output u: each starts running, where the last one
-- left state and output.
abbrev pub Follows : Module → (form s o : Bytes) → List Step → (t u : Bytes) → Type 0
Follows m form s o [] t u = (s ≡ t) × (o ≡ u)
Follows m form s o (x ∷ l) t u = ((x.form ≡ form) × (x.state ≡ s) × (x.output ≡ o) × ((view s).status ≡ 0)) × Follows m form (state_after m x) (output_after x) l t u

-- ---- pages

-- how many of the first n pages are owned
unfoldable pub owned_below : (ℕ → ℕ) → ℕ → ℕ
owned_below owner zero = 0
owned_below owner (suc p) = owned_below owner p + cond (eqb (owner p) 0) 0 1

abbrev pub owned : Bytes → ℕ
owned s = owned_below (view s).owner pages

-- pages granted and handed back in a list of steps
unfoldable pub granted : List Step → ℕ
granted [] = 0
granted (t ∷ ts) = (footprint t.effect).grants + granted ts

unfoldable pub handed_back : Module → List Step → ℕ
handed_back m [] = 0
handed_back m (t ∷ ts) = handed_back_by m (view t.state) t.top t.effect + handed_back m ts

-- ---- of the machine with page range R

module _ (R : PageRange) where
  abbrev pub go_call : Call → Bytes → Went
  go_call c s = go_at R c.file c.form s c.output c.budget

  abbrev pub trace_call : Call → Bytes → Trace
  trace_call c s = trace_at R c.file c.form s c.output c.budget

  -- "the module's file or another with which it is refused": the file of each call is f, or this very call, on the state as then
  -- left, is refused
  abbrev pub Lent : Bytes → List Call → Bytes → Type 0
  Lent f [] s = Unit {0}
  Lent f (c ∷ cs) s = ((c.file ≡ f) ⊎ ((n : ℕ) × (p : ℕ) × (go_call c s ≡ refused n p))) × Lent f cs (left_state (go_call c s) s)

  -- "The list's steps are those of its calls in order"; "Each call gets the state, byte for byte, as the last one left it"
  unfoldable pub steps_of : List Call → Bytes → List Step
  steps_of [] s = []
  steps_of (c ∷ cs) s = (trace_call c s).steps ++ steps_of cs (left_state (go_call c s) s)

  unfoldable pub final_of : List Call → Bytes → Bytes
  final_of [] s = s
  final_of (c ∷ cs) s = final_of cs (left_state (go_call c s) s)

  -- Where a list starts: "from its opening or from a saved state that passes document 01's state test for it".
  pub data Start (f : Bytes) : Bytes → Type 0 where
    from_opening : (xs s : Bytes) {t : Bytes} → AllBytes xs → open_at R f xs s ≡ opened t → Start f t
    from_saved : {s : Bytes} → AllBytes s → test_at R f s ≡ passed → Start f s

  -- ---- what each call answers

  -- A call answers: it is refused ("a refused call has none and changes nothing"), or reports the steps of its trace and leaves the
  -- trace's last state and output.
  pub data Answered (c : Call) (s : Bytes) : Type 0 where
    was_refused : (n p : ℕ) → go_call c s ≡ refused n p → (trace_call c s).steps ≡ [] → Answered c s
    was_run : (a : Outcome) → go_call c s ≡ went a (length (trace_call c s).steps) (trace_call c s).state (trace_call c s).output
        → Follows (module_of c.file) c.form s c.output (trace_call c s).steps (trace_call c s).state (trace_call c s).output → Answered c s

  abbrev pub AllAnswered : List Call → Bytes → Type 0
  AllAnswered [] s = Unit {0}
  AllAnswered (c ∷ cs) s = Answered c s × AllAnswered cs (left_state (go_call c s) s)
