-- Which bytes each accessor reads: where those agree, the accessor gives the same. The areas of the layout: what differs within one
-- area changes only that area's part of the view. Assumes nothing.
use Rattle.std.specs.Prelude.{◌≡◌, Bool, true, false, cond, ◌&&◌, ◌⊎◌, List, [], ◌∷◌, ℕ, zero, suc, ◌+◌, ◌%◌, ◌<◌, ◌≤◌, ltb, length}
use Rattle.std.proofs.Math.Path.{refl, fun_ext}
use Rattle.std.proofs.Common.{sym, ap, ◌∙◌, inl, inr, arith, ltb-true}
use Rattle.std.proofs.Math.Decide.{dec_lt}
use Rattle.words.specs.Bytes.{Bytes, byte_at, number, little, splice}
use Rattle.words.specs.ByteLaws.{length_splice, get_d_splice_in, get_d_splice_out, byte_past, number_agree}
use Rattle.words.specs.Bits.{bit, with_bit}
use Rattle.words.specs.Choose.{both}
use Rattle.rules.specs.Limits.{pages, page_bytes, memory_bytes, most_frames, most_registers, most_regions, state_bytes, status_at, frames_at, output_count_at, result_at, range_at, header_end, owners_at, marks_at, stack_at, frame_bytes, stack_end, memory_at}
use Rattle.rules.specs.State.{state_range, owner_place, mark_place, frame_place, register_place, map_place, function_place, instruction_place, memory_place, frame_function, frame_instruction, frame_register, frame_map, page_owner, page_mark, memory_byte, View, view, Write, write, written, put_mark, put_marks}
use Rattle.rules.specs.declared.PageRange.{PageRange}

-- the bytes from lo up to hi agree
abbrev pub Agree : Bytes → Bytes → ℕ → ℕ → Type 0
Agree t s lo hi = (i : ℕ) → lo ≤ i → i < hi → byte_at t i ≡ byte_at s i

-- all other bytes agree
abbrev pub Outside : Bytes → Bytes → ℕ → ℕ → Type 0
Outside t s lo hi = (i : ℕ) → (i < lo) ⊎ (hi ≤ i) → byte_at t i ≡ byte_at s i

-- THE apartness law of a write: within its area it changes nothing outside
pub splice_outside : (s : Bytes) (i : ℕ) (l : Bytes) (lo hi : ℕ) → lo ≤ i → i + length l ≤ hi → Outside (splice s i l) s lo hi
splice_outside s i l lo hi a b k (inl h) = get_d_splice_out s i l k 0 (inl (omega arith))
splice_outside s i l lo hi a b k (inr h) = get_d_splice_out s i l k 0 (inr (omega arith))

-- one write to both
pub agree_splice : (t s : Bytes) (i : ℕ) (l : Bytes) (lo hi : ℕ) → length t ≡ length s → Agree t s lo hi → Agree (splice t i l) (splice s i l) lo hi
agree_splice t s i l lo hi n h j a b = by (dec_lt j i) (dec_lt j (i + length l)) (dec_lt j (length t))
  where
    by : Dec (j < i) → Dec (j < i + length l) → Dec (j < length t) → byte_at (splice t i l) j ≡ byte_at (splice s i l) j
    by (yes c) _ _ = get_d_splice_out t i l j 0 (inl c) ∙ h j a b ∙ sym (get_d_splice_out s i l j 0 (inl c))
    by (no c) (no d) _ = get_d_splice_out t i l j 0 (inr (omega arith)) ∙ h j a b ∙ sym (get_d_splice_out s i l j 0 (inr (omega arith)))
    by (no c) (yes d) (yes e) = get_d_splice_in t i l j 0 (omega arith) d e ∙ sym (get_d_splice_in s i l j 0 (omega arith) d (omega arith))
    by (no c) (yes d) (no e) = byte_past (splice t i l) j (rw (length_splice t i l) (omega arith)) ∙ sym (byte_past (splice s i l) j (rw (length_splice s i l) (omega arith)))

-- what is written for marks in a row is read off the marks
pub marks_agree : (c : ℕ) (s t : Bytes) → length t ≡ length s → Agree t s marks_at stack_at → (p j : ℕ) → p < pages → j + c ≤ page_bytes → put_marks t p j c ≡ put_marks s p j c
unfolding put_marks written
marks_agree zero s t n h p j l k = refl
marks_agree (suc c) s t n h p j l k =
    ap (λ (b : ℕ). let v = write (mark_place p j) (little 1 (with_bit b (j % 8) 1)) in v ∷ put_marks (written (v ∷ []) t) p (suc j) c) (h (mark_place p j) (omega arith) (omega arith))
    ∙ ap (λ (ws : List Write). w ∷ ws)
    (marks_agree c (splice s w.place w.bytes) (splice t w.place w.bytes) (length_splice t _ _ ∙ n ∙ sym (length_splice s _ _)) (agree_splice t s w.place w.bytes marks_at stack_at n h) p (suc j) l (omega arith))
  where
    w : Write
    w = put_mark s p j 1

-- ---- accessors

-- under a test that both share
test_agree : (b : Bool) (x y : ℕ) → (b ≡ true → x ≡ y) → cond b x 0 ≡ cond b y 0
test_agree true x y h = h refl
test_agree false x y h = refl

below_agree : (n m x y : ℕ) → (n < m → x ≡ y) → cond (ltb n m) x 0 ≡ cond (ltb n m) y 0
below_agree n m x y h = test_agree (ltb n m) x y (λ e. h (ltb-true n m e))

both_agree : (n m k l x y : ℕ) → (n < m → k < l → x ≡ y) → cond (ltb n m && ltb k l) x 0 ≡ cond (ltb n m && ltb k l) y 0
both_agree n m k l x y h =
    test_agree (ltb n m && ltb k l) x y (λ e. let b = both (ltb n m) (ltb k l) e in h (ltb-true n m b.0) (ltb-true k l b.1))

module _ (t s : Bytes) where
  pub status_agree : Agree t s status_at frames_at → byte_at t status_at ≡ byte_at s status_at
  status_agree h = h status_at (omega arith) (omega arith)

  pub frames_agree : Agree t s frames_at output_count_at → byte_at t frames_at ≡ byte_at s frames_at
  frames_agree h = h frames_at (omega arith) (omega arith)

  pub output_count_agree : Agree t s output_count_at result_at → number 2 t output_count_at ≡ number 2 s output_count_at
  output_count_agree h = number_agree 2 t s output_count_at (λ i a b. h i (omega arith) (omega arith))

  pub result_agree : Agree t s result_at range_at → number 4 t result_at ≡ number 4 s result_at
  result_agree h = number_agree 4 t s result_at (λ i a b. h i (omega arith) (omega arith))

  pub range_agree : Agree t s range_at header_end → state_range t ≡ state_range s
  range_agree h =
      let a = h range_at (omega arith) (omega arith) in
      let b = h (suc range_at) (omega arith) (omega arith) in
      λ i. record { below = a i; above = b i }

  pub owner_agree : (p : ℕ) → (p < pages → byte_at t (owner_place p) ≡ byte_at s (owner_place p)) → page_owner t p ≡ page_owner s p
  unfolding page_owner
  owner_agree p h = below_agree p pages (byte_at t (owner_place p)) (byte_at s (owner_place p)) h

  pub mark_agree : (p j : ℕ) → (p < pages → j < page_bytes → bit (byte_at t (mark_place p j)) (j % 8) ≡ bit (byte_at s (mark_place p j)) (j % 8))
      → page_mark t p j ≡ page_mark s p j
  unfolding page_mark
  mark_agree p j h = both_agree p pages j page_bytes (bit (byte_at t (mark_place p j)) (j % 8)) (bit (byte_at s (mark_place p j)) (j % 8)) h

  pub memory_agree : (x : ℕ) → (x < memory_bytes → byte_at t (memory_place x) ≡ byte_at s (memory_place x)) → memory_byte t x ≡ memory_byte s x
  unfolding memory_byte
  memory_agree x h = below_agree x memory_bytes (byte_at t (memory_place x)) (byte_at s (memory_place x)) h

  module _ (k : ℕ) where
    pub function_agree : (k < most_frames → byte_at t (function_place k) ≡ byte_at s (function_place k)) → frame_function t k ≡ frame_function s k
    unfolding frame_function
    function_agree h = below_agree k most_frames (byte_at t (function_place k)) (byte_at s (function_place k)) h

    pub instruction_agree : (k < most_frames → Agree t s (instruction_place k) (instruction_place k + 2)) → frame_instruction t k ≡ frame_instruction s k
    unfolding frame_instruction
    instruction_agree h =
        below_agree k most_frames (number 2 t (instruction_place k)) (number 2 s (instruction_place k)) (λ l. number_agree 2 t s (instruction_place k) (h l))

    pub register_agree : (a : ℕ) → (k < most_frames → a < most_registers → Agree t s (register_place k a) (register_place k a + 4))
        → frame_register t k a ≡ frame_register s k a
    unfolding frame_register
    register_agree a h =
        both_agree k most_frames a most_registers (number 4 t (register_place k a)) (number 4 s (register_place k a))
        (λ l b. number_agree 4 t s (register_place k a) (h l b))

    pub map_agree : (i : ℕ) → (k < most_frames → i < most_regions → byte_at t (map_place k i) ≡ byte_at s (map_place k i)) → frame_map t k i ≡ frame_map s k i
    unfolding frame_map
    map_agree i h = both_agree k most_frames i most_regions (byte_at t (map_place k i)) (byte_at s (map_place k i)) h

-- the four accessors of one frame
pub record FrameSame (t s : Bytes) (k : ℕ) : Type 0 where
  pub fn : frame_function t k ≡ frame_function s k
  pub pc : frame_instruction t k ≡ frame_instruction s k
  pub reg : frame_register t k ≡ frame_register s k
  pub map : frame_map t k ≡ frame_map s k

pub frame_same : (t s : Bytes) (k : ℕ) → (k < most_frames → Agree t s (frame_place k) (frame_place k + frame_bytes)) → FrameSame t s k
frame_same t s k h = record {
  fn = function_agree t s k (λ l. h l (function_place k) (omega arith) (omega arith));
  pc = instruction_agree t s k (λ l i a b. h l i (omega arith) (omega arith));
  reg = fun_ext (λ a. register_agree t s k a (λ l m i b c. h l i (omega arith) (omega arith)));
  map = fun_ext (λ i. map_agree t s k i (λ l m. h l (map_place k i) (omega arith) (omega arith)));
}

-- of all frames
pub record StackSame (t s : Bytes) : Type 0 where
  pub fn : frame_function t ≡ frame_function s
  pub pc : frame_instruction t ≡ frame_instruction s
  pub reg : frame_register t ≡ frame_register s
  pub map : frame_map t ≡ frame_map s

pub stack_same : (t s : Bytes) → Agree t s stack_at stack_end → StackSame t s
stack_same t s h =
    let each : (k : ℕ) → FrameSame t s k = λ k. frame_same t s k (λ l i a b. h i (omega arith) (omega arith)) in
    record { fn = fun_ext (λ k. (each k).fn); pc = fun_ext (λ k. (each k).pc); reg = fun_ext (λ k. (each k).reg); map = fun_ext (λ k. (each k).map) }

pub owners_same : (t s : Bytes) → Agree t s owners_at marks_at → page_owner t ≡ page_owner s
owners_same t s h = fun_ext (λ p. owner_agree t s p (λ l. h (owner_place p) (omega arith) (omega arith)))

pub marks_same : (t s : Bytes) → Agree t s marks_at stack_at → page_mark t ≡ page_mark s
marks_same t s h =
    fun_ext (λ p. fun_ext (λ j. mark_agree t s p j (λ l m. ap (λ (b : ℕ). bit b (j % 8)) (h (mark_place p j) (omega arith) (omega arith)))))

pub memory_same : (t s : Bytes) → Agree t s memory_at state_bytes → memory_byte t ≡ memory_byte s
memory_same t s h = fun_ext (λ x. memory_agree t s x (λ l. h (memory_place x) (omega arith) (omega arith)))

-- ---- views

-- views are equal by their parts
pub view_eq : (u v : View) → u.status ≡ v.status → u.result ≡ v.result → u.frames ≡ v.frames → u.output_count ≡ v.output_count → u.range ≡ v.range
    → u.fn ≡ v.fn → u.pc ≡ v.pc → u.reg ≡ v.reg → u.map ≡ v.map → u.owner ≡ v.owner → u.mark ≡ v.mark → u.memory ≡ v.memory → u ≡ v
view_eq u v a b c d r e f g h j k l =
    λ i. record { status = a i; result = b i; frames = c i; output_count = d i; range = r i; fn = e i; pc = f i; reg = g i; map = h i; owner = j i; mark = k i; memory = l i }

-- ---- one part of a view changed

abbrev pub with_status : ℕ → View → View
with_status x v = record {
  status = x;
  result = v.result;
  frames = v.frames;
  output_count = v.output_count;
  range = v.range;
  fn = v.fn;
  pc = v.pc;
  reg = v.reg;
  map = v.map;
  owner = v.owner;
  mark = v.mark;
  memory = v.memory;
}

abbrev pub with_result : ℕ → View → View
with_result x v = record {
  status = v.status;
  result = x;
  frames = v.frames;
  output_count = v.output_count;
  range = v.range;
  fn = v.fn;
  pc = v.pc;
  reg = v.reg;
  map = v.map;
  owner = v.owner;
  mark = v.mark;
  memory = v.memory;
}

abbrev pub with_frames : ℕ → View → View
with_frames x v = record {
  status = v.status;
  result = v.result;
  frames = x;
  output_count = v.output_count;
  range = v.range;
  fn = v.fn;
  pc = v.pc;
  reg = v.reg;
  map = v.map;
  owner = v.owner;
  mark = v.mark;
  memory = v.memory;
}

abbrev pub with_output_count : ℕ → View → View
with_output_count x v = record {
  status = v.status;
  result = v.result;
  frames = v.frames;
  output_count = x;
  range = v.range;
  fn = v.fn;
  pc = v.pc;
  reg = v.reg;
  map = v.map;
  owner = v.owner;
  mark = v.mark;
  memory = v.memory;
}

abbrev pub with_range : PageRange → View → View
with_range x v = record {
  status = v.status;
  result = v.result;
  frames = v.frames;
  output_count = v.output_count;
  range = x;
  fn = v.fn;
  pc = v.pc;
  reg = v.reg;
  map = v.map;
  owner = v.owner;
  mark = v.mark;
  memory = v.memory;
}

abbrev pub with_stack : (fn pc : ℕ → ℕ) (reg map : ℕ → ℕ → ℕ) → View → View
with_stack fn pc reg map v = record {
  status = v.status;
  result = v.result;
  frames = v.frames;
  output_count = v.output_count;
  range = v.range;
  fn = fn;
  pc = pc;
  reg = reg;
  map = map;
  owner = v.owner;
  mark = v.mark;
  memory = v.memory;
}

abbrev pub with_owner : (ℕ → ℕ) → View → View
with_owner f v = record {
  status = v.status;
  result = v.result;
  frames = v.frames;
  output_count = v.output_count;
  range = v.range;
  fn = v.fn;
  pc = v.pc;
  reg = v.reg;
  map = v.map;
  owner = f;
  mark = v.mark;
  memory = v.memory;
}

abbrev pub with_mark : (ℕ → ℕ → ℕ) → View → View
with_mark f v = record {
  status = v.status;
  result = v.result;
  frames = v.frames;
  output_count = v.output_count;
  range = v.range;
  fn = v.fn;
  pc = v.pc;
  reg = v.reg;
  map = v.map;
  owner = v.owner;
  mark = f;
  memory = v.memory;
}

abbrev pub with_memory : (ℕ → ℕ) → View → View
with_memory f v = record {
  status = v.status;
  result = v.result;
  frames = v.frames;
  output_count = v.output_count;
  range = v.range;
  fn = v.fn;
  pc = v.pc;
  reg = v.reg;
  map = v.map;
  owner = v.owner;
  mark = v.mark;
  memory = f;
}

-- ---- what differs within one area changes its part only

module _ (t s : Bytes) where
  pub status_area : Outside t s status_at frames_at → view t ≡ with_status (byte_at t status_at) (view s)
  unfolding view
  status_area h =
      let f = stack_same t s (λ i a b. h i (inr (omega arith))) in
      view_eq (view t) (with_status (byte_at t status_at) (view s))
      refl (result_agree t s (λ i a b. h i (inr (omega arith))))
      (frames_agree t s (λ i a b. h i (inr (omega arith)))) (output_count_agree t s (λ i a b. h i (inr (omega arith)))) (range_agree t s (λ i a b. h i (inr (omega arith))))
      f.fn f.pc f.reg f.map
      (owners_same t s (λ i a b. h i (inr (omega arith)))) (marks_same t s (λ i a b. h i (inr (omega arith)))) (memory_same t s (λ i a b. h i (inr (omega arith))))

  pub frames_area : Outside t s frames_at output_count_at → view t ≡ with_frames (byte_at t frames_at) (view s)
  unfolding view
  frames_area h =
      let f = stack_same t s (λ i a b. h i (inr (omega arith))) in
      view_eq (view t) (with_frames (byte_at t frames_at) (view s))
      (status_agree t s (λ i a b. h i (inl (omega arith)))) (result_agree t s (λ i a b. h i (inr (omega arith))))
      refl (output_count_agree t s (λ i a b. h i (inr (omega arith)))) (range_agree t s (λ i a b. h i (inr (omega arith))))
      f.fn f.pc f.reg f.map
      (owners_same t s (λ i a b. h i (inr (omega arith)))) (marks_same t s (λ i a b. h i (inr (omega arith)))) (memory_same t s (λ i a b. h i (inr (omega arith))))

  pub output_count_area : Outside t s output_count_at result_at → view t ≡ with_output_count (number 2 t output_count_at) (view s)
  unfolding view
  output_count_area h =
      let f = stack_same t s (λ i a b. h i (inr (omega arith))) in
      view_eq (view t) (with_output_count (number 2 t output_count_at) (view s))
      (status_agree t s (λ i a b. h i (inl (omega arith)))) (result_agree t s (λ i a b. h i (inr (omega arith))))
      (frames_agree t s (λ i a b. h i (inl (omega arith)))) refl (range_agree t s (λ i a b. h i (inr (omega arith))))
      f.fn f.pc f.reg f.map
      (owners_same t s (λ i a b. h i (inr (omega arith)))) (marks_same t s (λ i a b. h i (inr (omega arith)))) (memory_same t s (λ i a b. h i (inr (omega arith))))

  pub result_area : Outside t s result_at range_at → view t ≡ with_result (number 4 t result_at) (view s)
  unfolding view
  result_area h =
      let f = stack_same t s (λ i a b. h i (inr (omega arith))) in
      view_eq (view t) (with_result (number 4 t result_at) (view s))
      (status_agree t s (λ i a b. h i (inl (omega arith)))) refl
      (frames_agree t s (λ i a b. h i (inl (omega arith)))) (output_count_agree t s (λ i a b. h i (inl (omega arith)))) (range_agree t s (λ i a b. h i (inr (omega arith))))
      f.fn f.pc f.reg f.map
      (owners_same t s (λ i a b. h i (inr (omega arith)))) (marks_same t s (λ i a b. h i (inr (omega arith)))) (memory_same t s (λ i a b. h i (inr (omega arith))))

  pub owner_area : Outside t s owners_at marks_at → view t ≡ with_owner (page_owner t) (view s)
  unfolding view
  owner_area h =
      let f = stack_same t s (λ i a b. h i (inr (omega arith))) in
      view_eq (view t) (with_owner (page_owner t) (view s))
      (status_agree t s (λ i a b. h i (inl (omega arith)))) (result_agree t s (λ i a b. h i (inl (omega arith))))
      (frames_agree t s (λ i a b. h i (inl (omega arith)))) (output_count_agree t s (λ i a b. h i (inl (omega arith)))) (range_agree t s (λ i a b. h i (inl (omega arith))))
      f.fn f.pc f.reg f.map
      refl (marks_same t s (λ i a b. h i (inr (omega arith)))) (memory_same t s (λ i a b. h i (inr (omega arith))))

  pub mark_area : Outside t s marks_at stack_at → view t ≡ with_mark (page_mark t) (view s)
  unfolding view
  mark_area h =
      let f = stack_same t s (λ i a b. h i (inr (omega arith))) in
      view_eq (view t) (with_mark (page_mark t) (view s))
      (status_agree t s (λ i a b. h i (inl (omega arith)))) (result_agree t s (λ i a b. h i (inl (omega arith))))
      (frames_agree t s (λ i a b. h i (inl (omega arith)))) (output_count_agree t s (λ i a b. h i (inl (omega arith)))) (range_agree t s (λ i a b. h i (inl (omega arith))))
      f.fn f.pc f.reg f.map
      (owners_same t s (λ i a b. h i (inl (omega arith)))) refl (memory_same t s (λ i a b. h i (inr (omega arith))))

  pub stack_area : Outside t s stack_at stack_end → view t ≡ with_stack (frame_function t) (frame_instruction t) (frame_register t) (frame_map t) (view s)
  unfolding view
  stack_area h =
      view_eq (view t) (with_stack (frame_function t) (frame_instruction t) (frame_register t) (frame_map t) (view s))
      (status_agree t s (λ i a b. h i (inl (omega arith)))) (result_agree t s (λ i a b. h i (inl (omega arith))))
      (frames_agree t s (λ i a b. h i (inl (omega arith)))) (output_count_agree t s (λ i a b. h i (inl (omega arith)))) (range_agree t s (λ i a b. h i (inl (omega arith))))
      refl refl refl refl
      (owners_same t s (λ i a b. h i (inl (omega arith)))) (marks_same t s (λ i a b. h i (inl (omega arith)))) (memory_same t s (λ i a b. h i (inr (omega arith))))

  pub memory_area : Outside t s memory_at state_bytes → view t ≡ with_memory (memory_byte t) (view s)
  unfolding view
  memory_area h =
      let f = stack_same t s (λ i a b. h i (inl (omega arith))) in
      view_eq (view t) (with_memory (memory_byte t) (view s))
      (status_agree t s (λ i a b. h i (inl (omega arith)))) (result_agree t s (λ i a b. h i (inl (omega arith))))
      (frames_agree t s (λ i a b. h i (inl (omega arith)))) (output_count_agree t s (λ i a b. h i (inl (omega arith)))) (range_agree t s (λ i a b. h i (inl (omega arith))))
      f.fn f.pc f.reg f.map
      (owners_same t s (λ i a b. h i (inl (omega arith)))) (marks_same t s (λ i a b. h i (inl (omega arith)))) refl

  pub range_area : Outside t s range_at header_end → view t ≡ with_range (state_range t) (view s)
  unfolding view
  range_area h =
      let f = stack_same t s (λ i a b. h i (inr (omega arith))) in
      view_eq (view t) (with_range (state_range t) (view s))
      (status_agree t s (λ i a b. h i (inl (omega arith)))) (result_agree t s (λ i a b. h i (inl (omega arith))))
      (frames_agree t s (λ i a b. h i (inl (omega arith)))) (output_count_agree t s (λ i a b. h i (inl (omega arith)))) refl
      f.fn f.pc f.reg f.map
      (owners_same t s (λ i a b. h i (inr (omega arith)))) (marks_same t s (λ i a b. h i (inr (omega arith)))) (memory_same t s (λ i a b. h i (inr (omega arith))))
