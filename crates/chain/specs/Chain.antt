-- The call that a frame stands at, on the bytes of file and state: the record of its instruction is a 33, its callee and its regions.
-- Assumes nothing.
use Rattle.std.specs.Prelude.{◌≡◌, Bool, cond, ◌&&◌, List, ℕ, suc, ◌+◌, ◌<◌, ◌^◌, eqb, ltb, length, zero, ◌/◌, ◌%◌}
use Rattle.std.proofs.Math.Path.{refl, ap}
use Rattle.std.proofs.Common.{sym, ◌∙◌, add-one, arith, ne_eqb}
use mathlib.Core.Logic.{◌≢◌}
use Rattle.words.specs.Bytes.{Bytes, AllBytes, list_of}
use Rattle.words.specs.ByteLaws.{get_d_list_of}
use Rattle.words.specs.Choose.{cond_split, eq_or_ne}
use Rattle.rules.specs.File.{record_of, record_start, byte_of_d, entry_of, instructions_of, parameters_of, kind_call, group_of}
use Rattle.rules.specs.Types.{Variable, region, arg, nowhere}
use Rattle.rules.specs.Module.{Instruction, call}
use Rattle.rules.specs.Walk.{whole}
use Rattle.rules.specs.Records.{head_of}
use Rattle.rules.specs.Decode.{module_of, function_of, after, code_at, code_of, call_of, region_bytes, arithmetic_of, memory_of, control_of, by_group, instruction_of, start_of, instruction_at}
use Rattle.rules.specs.State.{view, frame_function, frame_instruction, frame_map}
use Rattle.rules.specs.Step.{IsCall, not_call}
use Rattle.rules.specs.StateTest.{Chained}
use Rattle.rules.specs.declared.Record.{Record}
use Rattle.rules.specs.declared.Group.{Group}
use Rattle.rules.specs.declared.Group.TheVariants.{Arithmetic, Memory, Control}
use Rattle.state.specs.Reads.{instruction_lt}
use Rattle.typing.specs.Walk.{skip, skip_suc}
use Rattle.walk.specs.Code.{registers_far, skip_far, instruction_skip}
use Rattle.stack.specs.Tells.{Tells, tells_map, tells_eq, tells_lt, tells_and}
use Rattle.stack.specs.Facts.{function_at, head_at, params_at, length_at, start_few}

-- ---- no place of a short file is far

c_byte : (f : Bytes) (r : ℕ) → AllBytes f → (record_of f r).c < 256
unfolding record_of
c_byte f r all = all (record_start r + 3)

pub code_few : (f : Bytes) (h : ℕ) → AllBytes f → h < 2 ^ 30 → code_at f h < 2 ^ 31
code_few f h all l = omega (arith, registers_far f h, c_byte f h all)

-- ---- what the code finds

-- frame k is of a function of the module, at one of its instructions
pub record Stands (f s : Bytes) (k : ℕ) : Type 0 where
  pub known : frame_function s k < (module_of f).functions
  pub inside : frame_instruction s k < (function_at f s k).code_length

-- the record of its instruction
unfoldable pub call_at : Bytes → Bytes → ℕ → Record
call_at f s k = record_of f (instruction_at f (frame_function s k) (frame_instruction s k))

-- entry i of the map of frame k + 1 is frame k's at byte i of d
pub record Leads (s : Bytes) (k : ℕ) (x : Record) (i : ℕ) : Type 0 where
  pub is : frame_map s (suc k) i ≡ frame_map s k (byte_of_d x i)

abbrev pub Linked : Bytes → Bytes → ℕ → Type 0
Linked f s k = Chained (module_of f) (frame_function s) (frame_instruction s) (frame_map s) k

-- ---- a record is a call just where its kind is 33

module _ (x : Record) (c : Instruction) (not : x.kind ≢ kind_call) where
  pick : (k : ℕ) (i j : Instruction) → ¬ IsCall i → ¬ IsCall j → ¬ IsCall (cond (eqb x.kind k) i j)
  pick k i j p q = cond_split (λ (i : Instruction). ¬ IsCall i) (eqb x.kind k) i j (λ e. p) (λ e. q)

  by_group_law : (g : Group) → ¬ IsCall (by_group g x c)
  unfolding by_group arithmetic_of memory_of control_of
  by_group_law Arithmetic = pick 16 _ _ (not_call _ 16 refl (λ e. omega arith)) (pick 17 _ _ (not_call _ 17 refl (λ e. omega arith)) (pick 18 _ _ (not_call _ 18 refl (λ e. omega arith)) (pick 19 _ _ (not_call _ 19 refl (λ e. omega arith)) (pick 20 _ _ (not_call _ 20 refl (λ e. omega arith)) (pick 21 _ _ (not_call _ 21 refl (λ e. omega arith)) (not_call _ 22 refl (λ e. omega arith)))))))
  by_group_law Memory = pick 23 _ _ (not_call _ 23 refl (λ e. omega arith)) (pick 24 _ _ (not_call _ 24 refl (λ e. omega arith)) (pick 25 _ _ (not_call _ 25 refl (λ e. omega arith)) (pick 26 _ _ (not_call _ 26 refl (λ e. omega arith)) (pick 27 _ _ (not_call _ 27 refl (λ e. omega arith)) (pick 28 _ _ (not_call _ 28 refl (λ e. omega arith)) (pick 36 _ _ (not_call _ 36 refl (λ e. omega arith)) (pick 37 _ _ (not_call _ 37 refl (λ e. omega arith)) (pick 38 _ _ (not_call _ 38 refl (λ e. omega arith)) (not_call _ 39 refl (λ e. omega arith))))))))))
  by_group_law Control = rw (ne_eqb x.kind kind_call not) (pick 29 _ _ (not_call _ 29 refl (λ e. omega arith)) (pick 30 _ _ (not_call _ 30 refl (λ e. omega arith)) (pick 31 _ _ (not_call _ 31 refl (λ e. omega arith)) (pick 32 _ _ (not_call _ 32 refl (λ e. omega arith)) (not_call _ 34 refl (λ e. omega arith))))))

  not_call_law : ¬ IsCall (instruction_of x c)
  unfolding instruction_of
  not_call_law = by_group_law (group_of x.kind)

is_call : (x : Record) (c : Instruction) → x.kind ≡ kind_call → instruction_of x c ≡ c
unfolding instruction_of by_group group_of control_of
is_call x c e = rw e

module _ (f s : Bytes) (k : ℕ) where
  -- the regions that the call gives
  abbrev given : List Variable
  given = region_bytes (call_at f s k) (head_of f (whole f) (call_at f s k).b).a

  abbrev behind : Record
  behind = record_of f (instruction_at f (frame_function s k) (frame_instruction s k) + 1)

  code_is : (function_at f s k).code (frame_instruction s k)
      ≡ instruction_of (call_at f s k) (call_of (call_at f s k) behind (head_of f (whole f) (call_at f s k).b).a (parameters_of (head_of f (whole f) (call_at f s k).b)))
  unfolding module_of function_of code_of instruction_at start_of call_at
  code_is = refl

  code_call : (call_at f s k).kind ≡ kind_call
      → (function_at f s k).code (frame_instruction s k)
      ≡ call (call_at f s k).a (call_at f s k).b given (list_of (entry_of behind) (parameters_of (head_of f (whole f) (call_at f s k).b)))
  unfolding call_of
  code_call e = code_is ∙ is_call (call_at f s k) _ e

  kind_is : IsCall ((function_at f s k).code (frame_instruction s k)) → (call_at f s k).kind ≡ kind_call
  kind_is h = mathlib.Core.Logic.⊎_elim (λ e. e) (λ n. absurd (not_call_law (call_at f s k) _ n (rw code_is at h))) (eq_or_ne (call_at f s k).kind kind_call)

  given_at : (i : ℕ) → i < (head_of f (whole f) (call_at f s k).b).a → (arg given (region i)).number ≡ byte_of_d (call_at f s k) i
  unfolding region_bytes
  given_at i h = ap (λ (r : Variable). r.number) (get_d_list_of (λ j. region (byte_of_d (call_at f s k) j)) (head_of f (whole f) (call_at f s k).b).a i (region nowhere) h)

  module _ (st : Stands f s k) where
    made : ((call_at f s k).kind ≡ kind_call) × (((call_at f s k).b ≡ frame_function s (suc k)) × ((i : ℕ) → i < (head_at f s (suc k)).a → Leads s k (call_at f s k) i))
        → Linked f s k
    made p =
        record {
          caller =
              record {
                known = st.known;
                inside = st.inside;
                site =
                    record {
                      result = (call_at f s k).a;
                      callee = (call_at f s k).b;
                      regions = given;
                      arguments = list_of (entry_of behind) (parameters_of (head_of f (whole f) (call_at f s k).b));
                      is = code_call p.0;
                    };
              };
          callee = p.1.0;
          through = λ i l.
              let a : i < (head_at f s (suc k)).a = rw (params_at f s (suc k)) at l in
              let b : i < (head_of f (whole f) (call_at f s k).b).a = rw p.1.0 a in
              (p.1.1 i a).is ∙ ap (frame_map s k) (sym (given_at i b));
        }

    taken : Linked f s k
        → ((call_at f s k).kind ≡ kind_call) × (((call_at f s k).b ≡ frame_function s (suc k)) × ((i : ℕ) → i < (head_at f s (suc k)).a → Leads s k (call_at f s k) i))
    taken l =
        let e : (call_at f s k).kind ≡ kind_call = kind_is l.caller.site in
        let i = l.caller.site.is in
        let d = code_call e in
        let cs : l.caller.site.callee ≡ (call_at f s k).b = cc (i, d) in
        let rs : l.caller.site.regions ≡ given = cc (i, d) in
        let g : (call_at f s k).b ≡ frame_function s (suc k) = sym cs ∙ l.callee in (
          e,
          (
            g,
            λ j a.
                let b : j < (function_at f s (suc k)).region_params = rw (params_at f s (suc k)) a in
                let h : j < (head_of f (whole f) (call_at f s k).b).a = rw g a in
                record { is = l.through j b ∙ ap (λ (vs : List Variable). frame_map s k (arg vs (region j)).number) rs ∙ ap (frame_map s k) (given_at j h) },
          ),
        )

    pub linked_by : {b : Bool} {x h : Record} {g n : ℕ} → x ≡ call_at f s k → g ≡ frame_function s (k + 1) → h ≡ head_at f s (k + 1) → n ≡ h.a
        → Tells b ((x.kind ≡ kind_call) × ((x.b ≡ g) × ((i : ℕ) → i < n → Leads s k x i))) → Tells b (Linked f s k)
    linked_by ex eg eh en t =
        let eg' : _ ≡ frame_function s (suc k) = rw add-one at eg in
        let en' : _ ≡ (head_at f s (suc k)).a = en ∙ ap (λ (r : Record). r.a) (rw add-one at eh) in
        tells_map made taken (rw (ex, eg', en') at t)

-- ---- what the code's readers show

pub byte_0 : (x : Record) {i : ℕ} → i ≡ 0 → x.d % 256 ≡ byte_of_d x i
byte_0 x e = rw e

pub byte_1 : (x : Record) {i : ℕ} → i ≡ 1 → x.d / 256 % 256 ≡ byte_of_d x i
byte_1 x e = rw e

pub byte_2 : (x : Record) {i : ℕ} → i ≡ 2 → x.d / 65536 % 256 ≡ byte_of_d x i
byte_2 x e = rw e

pub byte_3 : (x : Record) {i : ℕ} → i ≢ 0 → i ≢ 1 → i ≢ 2 → x.d / 16777216 ≡ byte_of_d x i
byte_3 x {i} = go i
  where
    go : (i : ℕ) → i ≢ 0 → i ≢ 1 → i ≢ 2 → x.d / 16777216 ≡ byte_of_d x i
    go zero a b c = absurd (a refl)
    go (suc zero) a b c = absurd (b refl)
    go (suc (suc zero)) a b c = absurd (c refl)
    go (suc (suc (suc i))) a b c = refl

pub leads_by : {s : Bytes} {k i v r q : ℕ} {x : Record} → v ≡ byte_of_d x i → r ≡ frame_map s k v → q ≡ frame_map s (k + 1) i → Tells (eqb q r) (Leads s k x i)
leads_by {s} {k} {i} {v} {r} {q} {x} ev er eq =
    let e : q ≡ frame_map s (suc k) i = rw add-one at eq in
    let d : r ≡ frame_map s k (byte_of_d x i) = rw ev at er in
    tells_map (λ h. record { is = sym e ∙ h ∙ d }) (λ w. e ∙ w.is ∙ sym d) (tells_eq q r)

pub skip_none : (f : Bytes) (r : ℕ) → r ≡ skip f r 0
unfolding skip
skip_none f r = refl

pub skip_more : (f : Bytes) (r i : ℕ) {p q : ℕ} → p ≡ skip f r i → q ≡ after f p → q ≡ skip f r (i + 1)
skip_more f r i e d = rw (add-one i, skip_suc f r i) (d ∙ ap (after f) e)

pub skip_few : (f : Bytes) (r i : ℕ) {p : ℕ} → p ≡ skip f r i → r < 2 ^ 31 → i < 65536 → p < 2 ^ 32
skip_few f r i e a b = omega (arith, skip_far f r i)

pub skip_all : (f : Bytes) (r : ℕ) {i n p : ℕ} → p ≡ skip f r i → i ≡ n → p ≡ skip f r n
skip_all f r e d = rw d at e

pub place_few : (f : Bytes) (g : ℕ) {h r : ℕ} → length f < 2 ^ 32 → AllBytes f → h ≡ start_of f g → r ≡ code_at f h → r < 2 ^ 31
place_few f g {h} {r} l all eh er = rw er (code_few f h all (rw eh (start_few f g l)))

pub place_is : (f : Bytes) (g i : ℕ) {h r p : ℕ} → i < instructions_of (record_of f (start_of f g)) → h ≡ start_of f g → r ≡ code_at f h → p ≡ skip f r i
    → p ≡ instruction_at f g i
place_is f g i {h} {r} {p} l eh er ep = ep ∙ ap (λ (q : ℕ). skip f q i) (er ∙ ap (code_at f) eh) ∙ sym (instruction_skip f g i l)

pub stands_by : {f s : Bytes} {k functions g i n : ℕ} → functions ≡ (module_of f).functions → g ≡ frame_function s k → i ≡ frame_instruction s k
    → n ≡ instructions_of (head_at f s k) → Tells (ltb g functions && ltb i n) (Stands f s k)
stands_by {f} {s} {k} {functions} {g} {i} {n} ef eg ei en =
    let e : n ≡ (function_at f s k).code_length = en ∙ sym (length_at f s k) in
    tells_map (λ p. record { known = rw (← ef, ← eg) p.0; inside = rw (← e, ← ei) p.1 })
    (λ w. (rw (ef, eg) w.known, rw (e, ei) w.inside)) (tells_and (tells_lt g functions) (tells_lt i n))

pub call_small : (s : Bytes) (k : ℕ) {i : ℕ} → AllBytes s → i ≡ frame_instruction s k → i < 65536
unfolding view
call_small s k all e = rw e (instruction_lt s all k)

pub call_inside : (f s : Bytes) (k : ℕ) {g i : ℕ} → Stands f s k → g ≡ frame_function s k → i ≡ frame_instruction s k
    → i < instructions_of (record_of f (start_of f g))
unfolding start_of
call_inside f s k st eg ei = rw (eg, ei) (rw (length_at f s k) at st.inside)

pub call_is : (f s : Bytes) (k : ℕ) {x : Record} {p g i : ℕ} → x ≡ record_of f p → p ≡ instruction_at f g i → g ≡ frame_function s k → i ≡ frame_instruction s k
    → x ≡ call_at f s k
unfolding call_at
call_is f s k ex ep eg ei = ex ∙ ap (record_of f) (rw (eg, ei) at ep)
