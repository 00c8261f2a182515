-- The byte facts of a safe step (SafeStep): which effect it is depends on no page byte; what it leaves below the pages depends on the page
-- bytes that it reads only; and it changes no page byte but a store's, a handed out object's and a granted page's (of the
-- state's bytes: proofs/Independence). Assumes nothing.
use Rattle.std.specs.Prelude.{◌≡◌, cond, ◌⊎◌, length}
use Rattle.std.proofs.Math.Path.{refl, ap}
use Rattle.std.proofs.Common.{sym, ◌∙◌, inl, inr, arith}
use mathlib.Core.List.{List, [], ◌∷◌, ◌++◌}
use Prim.Native.Nat.{ℕ, zero, suc, ◌+◌, ◌*◌, ◌-◌, ◌%◌, ◌<◌, ◌≤◌}
use Rattle.std.proofs.Math.Decide.{dec_lt}
use Rattle.words.specs.Bytes.{Bytes, byte_at, little, splice}
use Rattle.words.specs.ByteLaws.{length_splice, length_little, get_d_splice_in, get_d_splice_out, byte_past}
use Rattle.words.specs.Bits.{with_bit}
use Rattle.rules.specs.Limits.{most_frames, pages, page_bytes, memory_bytes, memory_at}
use Rattle.rules.specs.Decision.{dec_typed}
use Rattle.rules.specs.Module.{Instruction, constant, copy, operate, zero_extend, sign_extend, address, check, field, index, load, store, new, free, input, output, jump, branch, call, return, new_bytes, load_byte, store_byte, check_bytes, Function, Module}
use Rattle.rules.specs.State.{mark_place, memory_place, memory_byte, memory_number, View, view, Write, written, put_status, put_frames, put_output_count, put_result, put_owner, put_mark, put_marks, clear_memory, clear_page, put_memory, put_instruction, put_frame, clear_marks, clear_frame}
use Rattle.rules.specs.Step.{Effect, assign, fetch, save, take_places, grant_page, free_place, go_to, emit, push, pop, finish, stop, stuck, need, dec_held, callee_map, callee_registers, returned, exec, effect_at, effect_of, closes}
use Rattle.rules.specs.Writes.{closing, leaving, set_and_on, state_writes, apply_state}
use Rattle.rules.specs.Footprint.{footprint, Within}
use Rattle.rules.specs.SafeStep.{SameButPages, Reads, Changes}
use Rattle.state.specs.Update.{stored_apart, cleared_in, cleared_out, memory_number_agree}
use Rattle.state.specs.Touched.{clear_of, by_take, by_grant}
use Rattle.state.specs.Apply.{apply}
use Rattle.state.specs.Areas.{range_agree, view_eq, memory_agree, stack_same, owners_same, marks_same, status_agree, frames_agree, output_count_agree, result_agree, with_memory}
use Rattle.state.specs.Puts.{after}
use Rattle.state.specs.Closing.{written_append}
use Rattle.state.specs.Reads.{memory_is}

-- ---- what is decided

-- no kind looks at a page byte
module _ (m : Module) (form : Bytes) (M : ℕ → ℕ) (v : View) where
  returned_same : (k : ℕ) (f : Function) (c x : ℕ) → returned m form (with_memory M v) k f c x ≡ returned m form v k f c x
  unfolding returned
  returned_same k f zero x = refl
  returned_same k f (suc c) x = refl

  exec_same : (k : ℕ) (f : Function) (i : Instruction) → exec m form (with_memory M v) k f i ≡ exec m form v k f i
  unfolding exec dec_held callee_map callee_registers
  exec_same k f (constant a d) = refl
  exec_same k f (copy a b) = refl
  exec_same k f (operate o a b c) = refl
  exec_same k f (zero_extend a b) = refl
  exec_same k f (sign_extend a b) = refl
  exec_same k f (address a b) = refl
  exec_same k f (check a b) = refl
  exec_same k f (field a b d) = refl
  exec_same k f (index a b c) = refl
  exec_same k f (load a b) = refl
  exec_same k f (store a b) = refl
  exec_same k f (new a) = refl
  exec_same k f (free a) = refl
  exec_same k f (input a c) = refl
  exec_same k f (output b) = refl
  exec_same k f (jump d) = refl
  exec_same k f (branch a d) = refl
  exec_same k f (call a g rs xs) = refl
  exec_same k f (return a) = ap (λ (e : Effect). need (dec_held m form v k f a) e) (returned_same k f k (v.reg k a))
  exec_same k f (new_bytes a) = refl
  exec_same k f (load_byte a b c) = refl
  exec_same k f (store_byte a b c) = refl
  exec_same k f (check_bytes a b) = refl

  effect_same : (n : ℕ) → effect_at m form (with_memory M v) n ≡ effect_at m form v n
  unfolding effect_at
  effect_same zero = refl
  effect_same (suc k) =
      ap (λ (e : Effect). need (dec_lt k most_frames) (need (dec_lt (v.fn k) m.functions) (need (dec_lt (v.pc k) (m.function (v.fn k)).code_length) (need (dec_typed m (m.function (v.fn k)) ((m.function (v.fn k)).code (v.pc k))) e))))
      (exec_same k (m.function (v.fn k)) ((m.function (v.fn k)).code (v.pc k)))

-- states that differ in page bytes only have one view but for the memory
pub view_pages : (s t : Bytes) → SameButPages s t → view s ≡ with_memory (memory_byte s) (view t)
unfolding view
view_pages s t h =
    let low : (i : ℕ) → i < memory_at → byte_at s i ≡ byte_at t i = h.bytes in
    let f = stack_same s t (λ i a b. low i (omega arith)) in
    view_eq (view s) (with_memory (memory_byte s) (view t))
    (status_agree s t (λ i a b. low i (omega arith))) (result_agree s t (λ i a b. low i (omega arith)))
    (frames_agree s t (λ i a b. low i (omega arith))) (output_count_agree s t (λ i a b. low i (omega arith))) (range_agree s t (λ i a b. low i (omega arith)))
    f.fn f.pc f.reg f.map
    (owners_same s t (λ i a b. low i (omega arith))) (marks_same s t (λ i a b. low i (omega arith))) refl

pub decides_law : (m : Module) (form s t : Bytes) → SameButPages s t → effect_of m form (view s) ≡ effect_of m form (view t)
unfolding effect_of
decides_law m form s t h =
    ap (λ (v : View). effect_at m form v v.frames) (view_pages s t h) ∙ effect_same m form (memory_byte s) (view t) (view t).frames

-- ---- what is left below the pages

-- one write to both; its bytes may differ where it lies in the pages
same_splice : (s t : Bytes) (i : ℕ) (l r : Bytes) → SameButPages s t → length l ≡ length r → (i < memory_at → l ≡ r)
    → SameButPages (splice s i l) (splice t i r)
same_splice s t i l r h n e = record {
  lengths = length_splice s i l ∙ h.lengths ∙ sym (length_splice t i r);
  bytes = λ j b. by j b (dec_lt j i) (dec_lt j (i + length l)) (dec_lt j (length s));
}
  where
    by : (j : ℕ) → j < memory_at → Dec (j < i) → Dec (j < i + length l) → Dec (j < length s) → byte_at (splice s i l) j ≡ byte_at (splice t i r) j
    by j b (yes a) _ _ = get_d_splice_out s i l j 0 (inl a) ∙ h.bytes j b ∙ sym (get_d_splice_out t i r j 0 (inl a))
    by j b (no a) (no c) _ = get_d_splice_out s i l j 0 (inr (omega arith)) ∙ h.bytes j b ∙ sym (get_d_splice_out t i r j 0 (inr (omega arith)))
    by j b (no a) (yes c) (yes d) =
        get_d_splice_in s i l j 0 (omega arith) c d
        ∙ ap (λ (q : Bytes). byte_at q (j - i)) (e (omega arith))
        ∙ sym (get_d_splice_in t i r j 0 (omega arith) (omega arith) (omega (arith, h.lengths)))
    by j b (no a) (yes c) (no d) =
        byte_past (splice s i l) j (rw (length_splice s i l) (omega arith))
        ∙ sym (byte_past (splice t i r) j (rw (length_splice t i r) (omega (arith, h.lengths))))

same_written : (a : List Write) (s t : Bytes) → SameButPages s t → SameButPages (written a s) (written a t)
unfolding written
same_written [] s t h = h
same_written (w ∷ a) s t h = same_written a (after w s) (after w t) (same_splice s t w.place w.bytes w.bytes h refl (λ _. refl))

-- the same writes, read off equal views
same_writes : (a b : List Write) → a ≡ b → (s t : Bytes) → SameButPages s t → SameButPages (written a s) (written b t)
same_writes a b e s t h = rw e (same_written b s t h)

-- a mark, whose byte is read from the state
same_mark : (s t u v : Bytes) → SameButPages s t → SameButPages u v → (p j b : ℕ) → SameButPages (after (put_mark s p j b) u) (after (put_mark t p j b) v)
same_mark s t u v h g p j b =
    same_splice u v (mark_place p j) _ _ g (length_little 1 _ ∙ sym (length_little 1 _))
    (λ l. ap (λ (c : ℕ). little 1 (with_bit c (j % 8) b)) (h.bytes (mark_place p j) l))

-- a run of marks likewise
same_marks : (c : ℕ) (s t u v : Bytes) → SameButPages s t → SameButPages u v → (p j : ℕ) → SameButPages (written (put_marks s p j c) u) (written (put_marks t p j c) v)
unfolding written put_marks
same_marks zero s t u v h g p j = g
same_marks (suc c) s t u v h g p j =
    same_marks c (after (put_mark s p j 1) s) (after (put_mark t p j 1) t) (after (put_mark s p j 1) u) (after (put_mark t p j 1) v) (same_mark s t s t h h p j 1) (same_mark s t u v h g p j 1) p (suc j)

-- a list of writes behind another
same_append : (a b c d : List Write) (s t : Bytes) → SameButPages (written a s) (written c t) → b ≡ d → SameButPages (written (a ++ b) s) (written (c ++ d) t)
same_append a b c d s t h e = rw (written_append a b s, written_append c d t) (same_writes b d e (written a s) (written c t) h)

closing_same : (m : Module) (M : ℕ → ℕ) (v : View) (k n : ℕ) → closing m (with_memory M v) k n ≡ closing m v k n
unfolding closing
closing_same m M v k zero = refl
closing_same m M v k (suc p) = ap (λ (l : List Write). l ++ cond (closes m v k p) (put_owner p 0 ∷ clear_marks p ∷ []) []) (closing_same m M v k p)

leaving_same : (m : Module) (M : ℕ → ℕ) (v : View) (k : ℕ) → leaving m (with_memory M v) k ≡ leaving m v k
unfolding leaving
leaving_same m M v k = ap (λ (l : List Write). l ++ (clear_frame k ∷ put_frames k ∷ [])) (closing_same m M v k pages)

module _ (m : Module) (k : ℕ) (s t : Bytes) (h : SameButPages s t) where
  -- a list of writes that is read off the view without its memory
  from_view : (f : View → List Write) → ((M : ℕ → ℕ) (v : View) → f (with_memory M v) ≡ f v) → f (view s) ≡ f (view t)
  from_view f e = ap f (view_pages s t h) ∙ e (memory_byte s) (view t)

  numbers_same : (x w : ℕ) → ((i : ℕ) → i < memory_bytes → (x ≤ i) × (i < x + w) → byte_at s (memory_place i) ≡ byte_at t (memory_place i))
      → memory_number (view s).memory x w ≡ memory_number (view t).memory x w
  unfolding view
  numbers_same x w f = memory_number_agree (memory_byte s) (memory_byte t) x w (λ i a b. memory_agree s t i (λ l. f i l (a, b)))

  pub reads_law : (e : Effect) → ((i : ℕ) → i < memory_bytes → Reads e i → byte_at s (memory_place i) ≡ byte_at t (memory_place i))
      → SameButPages (apply_state m k e s) (apply_state m k e t)
  unfolding apply_state state_writes written
  reads_law (assign a x) f = same_writes _ _ (from_view (λ v. set_and_on v k a x) (λ M v. refl)) s t h
  reads_law (fetch b a x w) f =
      same_writes _ _
      (from_view (λ v. set_and_on v k a (memory_number (view s).memory x w)) (λ M v. refl) ∙ ap (set_and_on (view t) k a) (numbers_same x w f)) s t h
  reads_law (save b x w y) f = same_writes _ _ (from_view (λ v. put_memory x w y ∷ put_instruction k (suc (v.pc k)) ∷ []) (λ M v. refl)) s t h
  reads_law (take_places p j c n a) f =
      let x : ℕ = page_bytes * p + n * j in
      same_append (put_marks s p j c) (clear_memory x (n * c) ∷ set_and_on (view s) k a x) (put_marks t p j c) (clear_memory x (n * c) ∷ set_and_on (view t) k a x) s t
      (same_marks c s t s t h h p j) (from_view (λ v. clear_memory x (n * c) ∷ set_and_on v k a x) (λ M v. refl))
  reads_law (grant_page p r c a) f =
      let first : List Write = clear_page p ∷ put_owner p (suc r) ∷ [] in
      same_append (put_marks s p 0 c) (set_and_on (view s) k a (page_bytes * p)) (put_marks t p 0 c) (set_and_on (view t) k a (page_bytes * p)) (written first s) (written first t)
      (same_marks c s t (written first s) (written first t) h (same_written first s t h) p 0) (from_view (λ v. set_and_on v k a (page_bytes * p)) (λ M v. refl))
  reads_law (free_place p j) f =
      same_writes _ _ (from_view (λ v. put_instruction k (suc (v.pc k)) ∷ []) (λ M v. refl)) (after (put_mark s p j 0) s) (after (put_mark t p j 0) t) (same_mark s t s t h h p j 0)
  reads_law (go_to d) f = same_written (put_instruction k d ∷ []) s t h
  reads_law (emit x) f = same_writes _ _ (from_view (λ v. put_output_count (suc v.output_count) ∷ put_instruction k (suc (v.pc k)) ∷ []) (λ M v. refl)) s t h
  reads_law (push g μ ρ) f = same_written (put_frame (suc k) g μ ρ ∷ put_frames (suc (suc k)) ∷ []) s t h
  reads_law (pop c a x) f =
      same_writes _ _ (from_view (λ v. leaving m v k ++ set_and_on v c a x) (λ M v. ap (λ (l : List Write). l ++ set_and_on v c a x) (leaving_same m M v k))) s t h
  reads_law (finish x) f =
      same_writes _ _ (from_view (λ v. leaving m v k ++ (put_status 1 ∷ put_result x ∷ [])) (λ M v. ap (λ (l : List Write). l ++ (put_status 1 ∷ put_result x ∷ [])) (leaving_same m M v k))) s t h
  reads_law (stop n) f = same_written (put_status n ∷ []) s t h
  reads_law stuck f = h

-- ---- page bytes

-- outside of w bytes from x on
beside : (x w i : ℕ) → ¬ ((x ≤ i) × (i < x + w)) → (i < x) ⊎ (x + w ≤ i)
beside x w i n = side (dec_lt i x) (dec_lt i (x + w))
  where
    side : Dec (i < x) → Dec (i < x + w) → (i < x) ⊎ (x + w ≤ i)
    side (yes l) _ = inl l
    side (no l) (yes r) = absurd (n (omega arith, r))
    side (no l) (no r) = inr (omega arith)

-- of a view: a store changes its bytes, an object that is handed out and a page that is granted become zero, nothing else changes
pub memory_kept : (m : Module) (k : ℕ) (e : Effect) (v : View) (i : ℕ) → ¬ Changes e i → (apply m k e v).memory i ≡ v.memory i
memory_kept m k (assign a x) v i n = refl
memory_kept m k (fetch b a x w) v i n = refl
memory_kept m k (save b x w y) v i n = stored_apart v.memory x w y i (beside x w i (λ h. n (inl h)))
memory_kept m k (take_places p j c s a) v i n = cleared_out v.memory (page_bytes * p + s * j) (s * c) i (beside (page_bytes * p + s * j) (s * c) i (λ h. n (inr h)))
memory_kept m k (grant_page p r c a) v i n = cleared_out v.memory (page_bytes * p) page_bytes i (beside (page_bytes * p) page_bytes i (λ h. n (inr h)))
memory_kept m k (free_place p j) v i n = refl
memory_kept m k (go_to d) v i n = refl
memory_kept m k (emit x) v i n = refl
memory_kept m k (push g μ ρ) v i n = refl
memory_kept m k (pop c a x) v i n = refl
memory_kept m k (finish x) v i n = refl
memory_kept m k (stop j) v i n = refl
memory_kept m k stuck v i n = refl

-- what an effect clears is zero
pub memory_cleared : (m : Module) (k : ℕ) (e : Effect) (v : View) (i : ℕ) → Within (footprint e).clears i → (apply m k e v).memory i ≡ 0
memory_cleared m k e v i h = elim (clear_of e i h) [
  | by_take p j c n a d w ↦ ap (λ (x : Effect). (apply m k x v).memory i) d ∙ cleared_in v.memory (page_bytes * p + n * j) (n * c) i w.0 w.1
  | by_grant p r c a d w ↦ ap (λ (x : Effect). (apply m k x v).memory i) d ∙ cleared_in v.memory (page_bytes * p) page_bytes i w.0 w.1
]

pub memory_byte_law : (s : Bytes) (i : ℕ) → i < memory_bytes → (view s).memory i ≡ byte_at s (memory_place i)
unfolding view
memory_byte_law s i l = memory_is s l
