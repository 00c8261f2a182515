-- Types as they are written, for code that asks for types under a substitution: the regions of a function are fewer than eight, so that
-- eight bytes that stand for themselves put each for itself. Assumes nothing but that, where it says so.
use Rattle.std.specs.Prelude.{◌≡◌, refl, Bool, ◌&&◌, List, [], ◌∷◌, map, ℕ, zero, suc, ◌<◌, eqb}
use Rattle.std.proofs.Common.{sym, ◌∙◌, subst, arith, ltb-true, eqb-true}
use Rattle.std.proofs.Math.Path.{ap, ap₂}
use Rattle.std.proofs.Math.Dec.{ltb}
use Rattle.words.specs.Bytes.{Bytes}
use Rattle.words.specs.Decide.{does, Each, none, more}
use Rattle.rules.specs.Types.{variable, Variable, region, Tree, ptr, arr, struct, raw_ptr, form, inner, region_of, sub, dec_tree, Uses, in_int, in_ptr, in_arr, in_struct, in_raw_ptr, in_bytes}
use Rattle.rules.specs.Module.{Module, Function, regions}
use Rattle.rules.specs.Flat.{flat, dec_run, dec_same}
use Rattle.terms.specs.Compare.{under, byte_under, under_is}
use Rattle.judgment.specs.Registers.{guarded, is_pointer, together, pointer_reads, together_reads}
use Rattle.judgment.specs.Rules.{whole_test}

-- every region that a function's types use stands for itself in this list
abbrev pub themselves : Bytes
themselves = 0 ∷ 1 ∷ 2 ∷ 3 ∷ 4 ∷ 5 ∷ 6 ∷ 7 ∷ []

abbrev pub few : ℕ
few = 8

-- what refusals 4 and 6 have established of a function: its types use fewer than eight regions
pub record Tight (F : Function) : Type 0 where
  pub registers : (a : ℕ) → a < F.registers → Uses few (F.register_type a)
  pub region_types : (i : ℕ) → i < regions F → Uses few (F.region_type i)

itself : (v : ℕ) → v < few → byte_under themselves v ≡ v
itself zero h = refl
itself (suc zero) h = refl
itself (suc (suc zero)) h = refl
itself (suc (suc (suc zero))) h = refl
itself (suc (suc (suc (suc zero)))) h = refl
itself (suc (suc (suc (suc (suc zero))))) h = refl
itself (suc (suc (suc (suc (suc (suc zero)))))) h = refl
itself (suc (suc (suc (suc (suc (suc (suc zero))))))) h = refl
itself (suc (suc (suc (suc (suc (suc (suc (suc v)))))))) h = absurd (omega arith)

own : (v : Variable) → v.number < few → under {k = variable} themselves v ≡ v
own v h = under_is themselves v ∙ ap region (itself v.number h)

owns : {rs : List Variable} → Each (λ r. r.number < few) rs → map (under {k = variable} themselves) rs ≡ rs
owns none = refl
owns (more {x = r} {xs = rs} h u) = ap₂ {C = List Variable} ◌∷◌ (own r h) (owns u)

pub plain : {T : Tree variable} → Uses few T → sub (under {k = variable} themselves) T ≡ T
unfolding sub
plain in_int = refl
plain (in_ptr {T = T} {r = r} h u) = ap₂ {C = Tree variable} ptr (plain u) (own r h)
plain (in_arr {m = m} u) = ap {B = Tree variable} (arr m) (plain u)
plain (in_struct {N = N} u) = ap {B = Tree variable} (struct N) (owns u)
plain (in_raw_ptr {m = m} {r = r} h) = ap {B = Tree variable} (raw_ptr m) (own r h)
plain in_bytes = refl

target_uses : {n : ℕ} {T : Tree variable} {r : Variable} → Uses n (ptr T r) → Uses n T
target_uses (in_ptr h u) = u

module _ (m : Module) (F : Function) (tight : Tight F) where
  target_plain : (a : ℕ) → a < F.registers → F.register_type a ≡ ptr (inner (F.register_type a)) (region_of (F.register_type a))
      → sub (under {k = variable} themselves) (inner (F.register_type a)) ≡ inner (F.register_type a)
  target_plain a l e = plain (target_uses (subst (Uses few) e (tight.registers a l)))

  -- kind 23 on the targets that the code has
  pub field_plain : (a b d : ℕ) (S T : Tree variable)
      → (form (F.register_type b) ≡ 2 → S ≡ inner (F.register_type b)) → (form (F.register_type a) ≡ 2 → T ≡ inner (F.register_type a))
      → together F a b && does (dec_run (flat m (sub (under {k = variable} themselves) S)) d (flat m (sub (under {k = variable} themselves) T)))
      ≡ together F a b && does (dec_run (flat m (inner (F.register_type b))) d (flat m (inner (F.register_type a))))
  field_plain a b d S T s t = guarded (together F a b) (does (dec_run (flat m (sub (under {k = variable} themselves) S)) d (flat m (sub (under {k = variable} themselves) T)))) (does (dec_run (flat m (inner (F.register_type b))) d (flat m (inner (F.register_type a)))))
      (λ e.
      let h = (together_reads F a b).0 e in
      let p : F.register_type a ≡ ptr (inner (F.register_type a)) (region_of (F.register_type a)) = h.0.1 ∙ ap (ptr (inner (F.register_type a))) (sym (ap region_of h.0.1)) in
      let x : sub (under {k = variable} themselves) S ≡ inner (F.register_type b) = ap (sub (under {k = variable} themselves)) (s (ap form h.1.1)) ∙ target_plain b h.1.0 h.1.1 in
      let y : sub (under {k = variable} themselves) T ≡ inner (F.register_type a) = ap (sub (under {k = variable} themselves)) (t (ap form h.0.1)) ∙ target_plain a h.0.0 p in
      ap₂ (λ (X Y : Tree variable). does (dec_run (flat m X) d (flat m Y))) x y)

  -- kinds 27 and 28 likewise
  pub whole_plain : (a v : ℕ) (T U : Tree variable)
      → v ≡ (region_of (F.register_type a)).number → (form (F.register_type a) ≡ 2 → T ≡ inner (F.register_type a)) → U ≡ F.region_type v
      → is_pointer F a && (ltb v (regions F) && does (dec_same (flat m (sub (under {k = variable} themselves) T)) (flat m (sub (under {k = variable} themselves) U)))) ≡ whole_test m F a
  unfolding whole_test
  whole_plain a v T U e t u =
      guarded (is_pointer F a) (ltb v (regions F) && does (dec_same (flat m (sub (under {k = variable} themselves) T)) (flat m (sub (under {k = variable} themselves) U)))) (ltb (region_of (F.register_type a)).number (regions F) && does (dec_same (flat m (inner (F.register_type a))) (flat m (F.region_type (region_of (F.register_type a)).number))))
      (λ q.
      let h = (pointer_reads F a).0 q in
      let x : sub (under {k = variable} themselves) T ≡ inner (F.register_type a) = ap (sub (under {k = variable} themselves)) (t (ap form h.1)) ∙ target_plain a h.0 h.1 in
      guarded (ltb v (regions F)) (does (dec_same (flat m (sub (under {k = variable} themselves) T)) (flat m (sub (under {k = variable} themselves) U)))) (does (dec_same (flat m (inner (F.register_type a))) (flat m (F.region_type v))))
      (λ l. ap₂ (λ (X Y : Tree variable). does (dec_same (flat m X) (flat m Y))) x (ap (sub (under {k = variable} themselves)) u ∙ plain (tight.region_types v (ltb-true v (regions F) l))))
      ∙ ap (λ (w : ℕ). ltb w (regions F) && does (dec_same (flat m (inner (F.register_type a))) (flat m (F.region_type w)))) e)

-- kind 24
module _ (F : Function) where
  pub index_plain : (a b : ℕ) (w : Bool) (S T U : Tree variable)
      → (form (F.register_type b) ≡ 2 → S ≡ inner (F.register_type b)) → (form (F.register_type a) ≡ 2 → T ≡ inner (F.register_type a)) → (form S ≡ 3 → U ≡ inner S)
      → together F a b && (w && (eqb (form S) 3 && does (dec_tree T U)))
      ≡ together F a b && (w && (eqb (form (inner (F.register_type b))) 3 && does (dec_tree (inner (F.register_type a)) (inner (inner (F.register_type b))))))
  index_plain a b w S T U s t u = guarded (together F a b) (w && (eqb (form S) 3 && does (dec_tree T U))) (w && (eqb (form (inner (F.register_type b))) 3 && does (dec_tree (inner (F.register_type a)) (inner (inner (F.register_type b))))))
      (λ e.
      let h = (together_reads F a b).0 e in
      let x : S ≡ inner (F.register_type b) = s (ap form h.1.1) in
      let y : T ≡ inner (F.register_type a) = t (ap form h.0.1) in
      ap (λ (v : Bool). w && v)
      (guarded (eqb (form S) 3) (does (dec_tree T U)) (does (dec_tree T (inner S))) (λ q. ap (λ (X : Tree variable). does (dec_tree T X)) (u (eqb-true (form S) 3 q)))
      ∙ ap₂ (λ (X Y : Tree variable). eqb (form X) 3 && does (dec_tree Y (inner X))) x y))
