-- What lies in pages that no live region owns bears on no run (specs/Unowned says between which states): `unowned_bytes`. Assumes nothing.
use Rattle.std.specs.Prelude.{◌≡◌, ◌⊎◌, ◌≢◌, List, ◌∷◌}
use Rattle.std.proofs.Math.Path.{refl}
use Rattle.std.proofs.Common.{sym, ap, ap₂, ◌∙◌, subst, true≢false, inl, inr, arith, eqb-true}
use Rattle.std.proofs.Math.Bool.{Bool, true, false}
use Rattle.std.proofs.lemmas.Bool.{false≢true}
use Prim.Native.Nat.{ℕ, zero, suc, ◌+◌, ◌*◌, ◌/◌, ◌%◌, ◌<◌, ◌≤◌}
use Rattle.std.proofs.Math.Decide.{dec_lt}
use Rattle.std.proofs.Math.Dec.{eqb}
use Rattle.words.specs.Bytes.{Bytes, AllBytes, byte_at}
use Rattle.words.specs.Choose.{came_no}
use Rattle.rules.specs.Limits.{page_bytes}
use Rattle.rules.specs.Module.{Module}
use Rattle.rules.specs.Decode.{module_of}
use Rattle.rules.specs.Verdict.{verdict_of, IsAccepted}
use Rattle.rules.specs.State.{View, view, memory_place}
use Rattle.rules.specs.Step.{Effect, assign, fetch, save, take_places, grant_page, free_place, go_to, emit, push, pop, finish, stop, stuck, effect_of, closes}
use Rattle.rules.specs.Writes.{apply_state}
use Rattle.rules.specs.Run.{Step, top_of, step_of, state_after, output_after, Trace, no_steps, run_of}
use Rattle.rules.specs.StateTest.{Passes}
use Rattle.rules.specs.SafeStep.{SameButPages, Reads, SafeStep}
use Rattle.state.specs.Update.{upd, upd_cases, upd_other, stored, cleared, cleared_in, cleared_out}
use Rattle.state.specs.Apply.{apply}
use Rattle.state.specs.Touched.{load_of}
use Rattle.state.specs.Areas.{with_memory}
use Rattle.state.specs.Effects.{Bounded, view_apply}
use Rattle.state.specs.Whole.{Whole, spare_edges, whole_apply}
use Rattle.state.specs.Independence.{view_pages, memory_byte_law}
use Rattle.soundness.specs.Facts.{ModuleOk, accepted_ok}
use Rattle.soundness.specs.Range.{touched_owned}
use Rattle.soundness.specs.Sound.{top_frame}
use Rattle.soundness.specs.ForCode.{Steady, step_steady}
use Rattle.soundness.specs.Audit.{effects_of, SameRun, SameStep, same_reads}
use Rattle.soundness.specs.Unowned.{SameButUnowned}

reads_owned : (m : Module) (form s o : Bytes) → SafeStep m (step_of m form s o) → (e : Effect) → effect_of m form (view s) ≡ e → (i : ℕ) → Reads e i → (view s).owner (i / page_bytes) ≢ 0
reads_owned m form s o h e d i r =
    let l = load_of e i r in
    touched_owned m (view s) (top_frame s) l.through l.address l.bytes i (h.loads l.through l.register l.address l.bytes (d ∙ l.is)) l.low l.high

stored_same : (f g : ℕ → ℕ) (x w y i : ℕ) → f i ≡ g i → stored f x w y i ≡ stored g x w y i
unfolding stored
stored_same f g x zero y i e = e
stored_same f g x (suc w) y i e =
    stored_same (upd f x (y % 256)) (upd g x (y % 256)) (suc x) w (y / 256) i
    (upd_cases (λ (c : ℕ). upd f x (y % 256) i ≡ c) g x (y % 256) i
    (λ d. upd_cases (λ (c : ℕ). c ≡ y % 256) f x (y % 256) i (λ _. refl) (λ n. absurd (n d)))
    (λ n. upd_other f x (y % 256) i n ∙ e))

cleared_same : (f g : ℕ → ℕ) (x n i : ℕ) → ((i < x) ⊎ (x + n ≤ i) → f i ≡ g i) → cleared f x n i ≡ cleared g x n i
cleared_same f g x n i e = go (dec_lt i x) (dec_lt i (x + n))
  where
    apart : (i < x) ⊎ (x + n ≤ i) → cleared f x n i ≡ cleared g x n i
    apart h = cleared_out f x n i h ∙ e h ∙ sym (cleared_out g x n i h)

    go : Dec (i < x) → Dec (i < x + n) → cleared f x n i ≡ cleared g x n i
    go (yes l) _ = apart (inl l)
    go (no l) (no h) = apart (inr (omega arith))
    go (no l) (yes h) = cleared_in f x n i (omega arith) h ∙ sym (cleared_in g x n i (omega arith) h)

-- equal in the owned pages before, equal in those owned after
memory_same : (m : Module) (k : ℕ) (e : Effect) (v : View) (M : ℕ → ℕ) (i : ℕ) → (v.owner (i / page_bytes) ≢ 0 → M i ≡ v.memory i)
    → (apply m k e v).owner (i / page_bytes) ≢ 0 → (apply m k e (with_memory M v)).memory i ≡ (apply m k e v).memory i
memory_same m k (assign a x) v M i h n = h n
memory_same m k (fetch b a x w) v M i h n = h n
memory_same m k (save b x w y) v M i h n = stored_same M v.memory x w y i (h n)
memory_same m k (take_places p j c s a) v M i h n = cleared_same M v.memory (page_bytes * p + s * j) (s * c) i (λ _. h n)
memory_same m k (grant_page p r c a) v M i h n = cleared_same M v.memory (page_bytes * p) page_bytes i (λ d. h (λ z. n (upd_other v.owner p (suc r) (i / page_bytes) (other d) ∙ z)))
  where
    other : (i < page_bytes * p) ⊎ (page_bytes * p + page_bytes ≤ i) → i / page_bytes ≢ p
    other (inl l) e = omega arith
    other (inr l) e = omega arith
memory_same m k (free_place p j) v M i h n = h n
memory_same m k (go_to d) v M i h n = h n
memory_same m k (emit x) v M i h n = h n
memory_same m k (push g μ ρ) v M i h n = h n
memory_same m k (pop c a x) v M i h n = h (λ z. (came_no (λ (y : ℕ). y ≢ 0) (closes m v k (i / page_bytes)) 0 (v.owner (i / page_bytes)) (λ f. f refl) n).1 z)
memory_same m k (finish x) v M i h n = h (λ z. (came_no (λ (y : ℕ). y ≢ 0) (closes m v k (i / page_bytes)) 0 (v.owner (i / page_bytes)) (λ f. f refl) n).1 z)
memory_same m k (stop j) v M i h n = h n
memory_same m k stuck v M i h n = h n

-- the bounds of an effect do not depend on the page bytes
bounded_same : (v : View) (M : ℕ → ℕ) (k : ℕ) (e : Effect) → Bounded v k e → Bounded (with_memory M v) k e
bounded_same v M k (assign a x) b = (record { frame = b.0.frame; next = b.0.next }, b.1)
bounded_same v M k (fetch r a x w) b = (record { frame = b.0.frame; next = b.0.next }, b.1)
bounded_same v M k (save r x w y) b = (record { frame = b.0.frame; next = b.0.next }, b.1)
bounded_same v M k (take_places p j c n a) b = (record { frame = b.0.frame; next = b.0.next }, b.1)
bounded_same v M k (grant_page p r c a) b = (record { frame = b.0.frame; next = b.0.next }, b.1)
bounded_same v M k (free_place p j) b = (record { frame = b.0.frame; next = b.0.next }, b.1)
bounded_same v M k (go_to d) b = b
bounded_same v M k (emit x) b = (record { frame = b.0.frame; next = b.0.next }, b.1)
bounded_same v M k (push g μ ρ) b = b
bounded_same v M k (pop c a x) b = record { frame = b.frame; caller = b.caller; next = b.next; held = b.held }
bounded_same v M k (finish x) b = b
bounded_same v M k (stop n) b = b
bounded_same v M k stuck b = b

-- length and spare bytes are those of s
same_whole : (t s : Bytes) → SameButPages t s → AllBytes t → Whole s → Whole t
same_whole t s p b w = record { size = p.lengths ∙ w.size; bytes = b; spare = λ i h. p.bytes i (spare_edges i h).1.0 ∙ w.spare i h }

view_is : (t s : Bytes) → SameButPages t s → view t ≡ with_memory (view t).memory (view s)
unfolding view
view_is t s p = view_pages t s p

module _ (m : Module) (ok : ModuleOk m) (form : Bytes) (form-bytes : AllBytes form) where
  record Together (t s o : Bytes) : Type 0 where
    same : SameStep m ok form form-bytes t s o
    bytes : AllBytes (state_after m (step_of m form t o))
    after : SameButUnowned (state_after m (step_of m form t o)) (state_after m (step_of m form s o))

  together : (t s o : Bytes) → Steady m s → AllBytes t → (view s).status ≡ 0 → SameButUnowned t s → Together t s o
  together t s o h b z p =
      let st = step_steady m ok form form-bytes s o h z in
      let e : Effect = effect_of m form (view s) in
      let k : ℕ = top_frame s in
      let M : ℕ → ℕ = (view t).memory in
      let same = same_reads m ok form form-bytes t s o h z p.rest (λ i l r. p.owned i l (reads_owned m form s o st.safe (effect_of m form (view s)) refl i r)) in
      let is : view t ≡ with_memory M (view s) = view_is t s p.rest in
      let whole_s : Whole s = record { size = h.passes.size; bytes = h.bytes; spare = h.passes.unread } in
      let whole_t : Whole t = same_whole t s p.rest b whole_s in
      let bounds : Bounded (view t) k e = subst (λ (v : View). Bounded v k e) (sym is) (bounded_same (view s) M k e st.bounds) in
      let left : state_after m (step_of m form t o) ≡ apply_state m k e t = ap₂ (λ (i : ℕ) (x : Effect). apply_state m (top_of i) x t) (ap (λ (v : View). v.frames) is) same.effect in
      let view_t : view (apply_state m k e t) ≡ apply m k e (with_memory M (view s)) = view_apply m t whole_t.size b k e bounds ∙ ap (apply m k e) is in
      let view_s : view (apply_state m k e s) ≡ apply m k e (view s) = view_apply m s whole_s.size h.bytes k e st.bounds in
      record {
        same = same;
        bytes = subst AllBytes (sym left) (whole_apply m t k e bounds whole_t).bytes;
        after = record {
          rest = same.state;
          owned = λ i l n.
              ap (λ (y : Bytes). byte_at y (memory_place i)) left
              ∙ sym (memory_byte_law (apply_state m k e t) i l)
              ∙ ap (λ (v : View). v.memory i) view_t
              ∙ memory_same m k e (view s) M i (λ d. memory_byte_law t i l ∙ p.owned i l d ∙ sym (memory_byte_law s i l)) (λ d. n (ap (λ (v : View). v.owner (i / page_bytes)) view_s ∙ d))
              ∙ sym (ap (λ (v : View). v.memory i) view_s)
              ∙ memory_byte_law (apply_state m k e s) i l;
        };
      }

  same_runs : (b : ℕ) (t s o : Bytes) → Steady m s → AllBytes t → SameButUnowned t s
      → SameRun (run_of m form b t o) (run_of m form b s o) × SameButUnowned (run_of m form b t o).state (run_of m form b s o).state
  unfolding run_of effects_of
  same_runs zero t s o h l p = (record { effects = refl; output = refl; state = p.rest }, p)
  same_runs (suc b) t s o h l p =
      go (eqb (view s).status 0) refl (eqb (view t).status 0) (ap (λ (v : View). eqb v.status 0) (view_pages t s p.rest)) (λ y x u i j q. same_runs b y x u i j q)
    where
      made : Bool → Bytes → Trace
      made d y = elim d as (λ _. Trace) [
        | true ↦
            let x : Step = step_of m form y o in
            let r : Trace = run_of m form b (state_after m x) (output_after x) in
            record { steps = x ∷ r.steps; state = r.state; output = r.output }
        | false ↦ no_steps y o
      ]

      go : (c : Bool) → eqb (view s).status 0 ≡ c → (d : Bool) → d ≡ eqb (view s).status 0
          → ((y x u : Bytes) → Steady m x → AllBytes y → SameButUnowned y x → SameRun (run_of m form b y u) (run_of m form b x u) × SameButUnowned (run_of m form b y u).state (run_of m form b x u).state)
          → SameRun (made d t) (made c s) × SameButUnowned (made d t).state (made c s).state
      go true e true i ih =
          let z : (view s).status ≡ 0 = eqb-true (view s).status 0 e in
          let q = together t s o h l z p in
          let st = step_steady m ok form form-bytes s o h z in
          let y : Bytes = state_after m (step_of m form t o) in
          let x : Bytes = state_after m (step_of m form s o) in
          let r = subst (λ (u : Bytes). SameRun (run_of m form b y u) (run_of m form b x (output_after (step_of m form s o))) × SameButUnowned (run_of m form b y u).state (run_of m form b x (output_after (step_of m form s o))).state) (sym q.same.output)
          (ih y x (output_after (step_of m form s o)) st.after q.bytes q.after) in
          (record { effects = ap₂ {C = List Effect} ◌∷◌ q.same.effect r.0.effects; output = r.0.output; state = r.0.state }, r.1)
      go false e false i ih = (record { effects = refl; output = refl; state = p.rest }, p)
      go true e false i ih = absurd (false≢true (i ∙ e))
      go false e true i ih = absurd (true≢false (i ∙ e))

-- Over a whole run of an accepted module, with any form and budget, from a state that passes the test.
pub unowned_bytes : (f form : Bytes) (b : ℕ) (t s o : Bytes) → IsAccepted (verdict_of f) → AllBytes form → AllBytes s → AllBytes t → Passes (module_of f) s → SameButUnowned t s
    → SameRun (run_of (module_of f) form b t o) (run_of (module_of f) form b s o) × SameButUnowned (run_of (module_of f) form b t o).state (run_of (module_of f) form b s o).state
unowned_bytes f form b t s o acc h l k p = same_runs (module_of f) (accepted_ok f acc) form h b t s o (record { bytes = l; passes = p }) k
