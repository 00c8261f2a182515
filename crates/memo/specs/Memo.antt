-- What is remembered of runs: an answer for each distance into an object, none where nobody has asked. Assumes nothing.
use Rattle.std.specs.Prelude.{◌≡◌, Bool, true, false, ◌≢◌, ℕ, ◌+◌, ◌*◌, ◌/◌, ◌%◌, ◌<◌, ◌≤◌, List, Option, Some, None, get_or, replicate, length, set}
use Rattle.std.proofs.Common.{sym, ap, ◌∙◌, ⊎_elim, arith, subst, length-set, get_or-set_same, get_or-set_other}
use Rattle.std.proofs.Math.Nat.{mod-le}
use Rattle.std.proofs.Math.Decide.{ℕ_discrete}
use Rattle.std.proofs.Math.ListN.{get_or-eq_default, length-replicate}
use Rattle.std.proofs.lemmas.List.{get_or-replicate}
use Rattle.words.specs.Bytes.{Bytes}
use Rattle.words.specs.Choose.{lt_or_le}
use Rattle.words.specs.Decide.{does, does_true, true_does}
use Rattle.rules.specs.Limits.{size_limit}
use Rattle.rules.specs.File.{untyped_mark}
use Rattle.rules.specs.Types.{RegionKind, variable, live, Tree, sub, dec_tree}
use Rattle.rules.specs.Module.{Module}
use Rattle.rules.specs.Flat.{flat, size, dec_run, position_at}
use Rattle.rules.specs.Decode.{module_of}
use Rattle.layout.specs.Flat.{Plain, PlainFields, distance_zero, sized_some, size_sub}
use Rattle.layout.specs.Runs.{same_run}
use Rattle.terms.specs.Heads.{place_of, tree_at}
use Rattle.terms.specs.Extents.{Terms}
use Rattle.terms.specs.ExtentLaws.{module_term}
use Rattle.terms.specs.Readers.{entry_type, entry_term}
use Rattle.terms.specs.Plain.{plain_sub, plain_term, plain_fields}
use Rattle.terms.specs.Compare.{under}
use Rattle.equality.specs.Equal.{places_same}
use Rattle.runs.specs.Runs.{RunAtIs, InPageIs, page_none, page_past, page_in}

-- m remembers at which distances of the type u of a region under p the run of term t under q stands
pub record Remembers (f : Bytes) (u : ℕ) (p : Bytes) (t : ℕ) (q : Bytes) (m : List (Option Bool)) : Type 0 where
  pub each : (o : ℕ) → o < 256 → (b : Bool) → get_or m o None ≡ Some b → RunAtIs f u p o t q b

-- m remembers nothing
pub record Forgotten (m : List (Option Bool)) : Type 0 where
  pub each : (o : ℕ) → o < 256 → get_or m o None ≡ None

-- objects of type u have this size
pub record SizeIs (f : Bytes) (u z : ℕ) : Type 0 where
  pub is : z ≡ size (module_of f) (entry_type f u)
  pub small : z ≤ 257

none_there : (n o : ℕ) → get_or (replicate {A = Option Bool} n None) o None ≡ None
none_there n o = ⊎_elim
    (λ l. get_or-replicate {A = Option Bool} n o None None l)
    (λ l. get_or-eq_default (replicate {A = Option Bool} n None) None (omega (arith, length-replicate {A = Option Bool} n None)))
    (lt_or_le o n)

pub forgotten : (n : ℕ) → Forgotten (replicate n None)
forgotten n = record { each = λ o l. none_there n o }

module _ {f : Bytes} {u : ℕ} {p : Bytes} {t : ℕ} {q : Bytes} where
  pub remembers_nothing : {m : List (Option Bool)} → Forgotten m → Remembers f u p t q m
  remembers_nothing w = record { each = λ o l b e. absurd (let z = w.each o l in cc) }

  pub remembers_none : (n : ℕ) → Remembers f u p t q (replicate n None)
  remembers_none n = remembers_nothing (forgotten n)

  pub remembers_set : {m : List (Option Bool)} (o : ℕ) {b : Bool} → RunAtIs f u p o t q b → Remembers f u p t q m → Remembers f u p t q (set m o (Some b))
  remembers_set {m} o {b} h r = record { each = λ j k c e. go j k c e (ℕ_discrete j o) }
    where
      go : (j : ℕ) → j < 256 → (c : Bool) → get_or (set m o (Some b)) j None ≡ Some c → Dec (j ≡ o) → RunAtIs f u p j t q c
      go j k c e (yes z) =
          ⊎_elim
          (λ l. let g : get_or (set m o (Some b)) j None ≡ Some b = rw z (get_or-set_same m o (Some b) None l) in let w : b ≡ c = cc in let v : RunAtIs f u p j t q b = rw z h in subst (λ (x : Bool). RunAtIs f u p j t q x) w v)
          (λ l. absurd (let g : get_or (set m o (Some b)) j None ≡ None = get_or-eq_default (set m o (Some b)) None (omega (arith, length-set m o (Some b))) in cc))
          (lt_or_le o (length m))
      go j k c e (no d) = r.each j k c (sym (get_or-set_other m o j (Some b) None d) ∙ e)

pub forget_more : (m : List (Option Bool)) (i : ℕ) → ((j : ℕ) → j < i → get_or m j None ≡ None) → (j : ℕ) → j < i + 1 → get_or (set m i None) j None ≡ None
forget_more m i h j l = go (ℕ_discrete j i)
  where
    go : Dec (j ≡ i) → get_or (set m i None) j None ≡ None
    go (yes e) = ⊎_elim (λ k. rw e (get_or-set_same m i None None k)) (λ k. get_or-eq_default (set m i None) None (omega (arith, length-set m i None))) (lt_or_le i (length m))
    go (no d) = get_or-set_other m i j None None d ∙ h j (omega (arith, d))

-- ---- the place in a page, from the run

pub rest_few : (x z : ℕ) → x < 256 → x % z < 256
rest_few x z h = let l = mod-le x z in omega arith

module _ {f : Bytes} {u z : ℕ} (w : SizeIs f u z) (p : Bytes) (x t : ℕ) (q : Bytes) where
  is : (k : RegionKind) → z ≡ (flat (module_of f) (sub (under {k = k} p) (entry_type f u))).size
  is k = w.is ∙ sym (size_sub (under {k = k} p) (module_of f) (entry_type f u))

  pub in_none : z ≡ 0 → InPageIs f u p x t q false
  in_none e = (page_none _ x _ z (is variable) e, page_none _ x _ z (is live) e)

  pub in_past : z ≢ 0 → 256 < x / z * z + z → InPageIs f u p x t q false
  in_past d h = (page_past _ x _ z (is variable) d h, page_past _ x _ z (is live) d h)

  pub in_some : {b : Bool} → z ≢ 0 → x / z * z + z ≤ 256 → RunAtIs f u p (x % z) t q b → InPageIs f u p x t q b
  in_some {b} d h r = (page_in _ x _ z (is variable) d h b r.0, page_in _ x _ z (is live) d h b r.1)

-- ---- at the start of an object of that very type

whole_stands : {j : RegionKind} (m : Module) → PlainFields m → (T U : Tree j) → Plain T → T ≡ U → 0 < size m T → size m T ≤ size_limit → true ≡ does (dec_run (flat m T) (position_at (flat m T) 0) (flat m U))
whole_stands m plain T U p e h l =
    sym (true_does (dec_run (flat m T) (position_at (flat m T) 0) (flat m U))
    (same_run (flat m T) (flat m U) (distance_zero m plain T p l) (record { some = sized_some m plain T p l h; equal = ap (λ (X : Tree _). (flat m X).prims) e })))

pub same_tree : (j : RegionKind) (f : Bytes) {n a b : ℕ} (u t : ℕ) (p q : Bytes) → Terms f n → a ≡ place_of n u → b ≡ place_of n t → places_same j f a p b q ≡ true
    → sub (under {k = j} p) ((module_of f).term u) ≡ sub (under q) ((module_of f).term t)
unfolding places_same
same_tree j f {n} {a} {b} u t p q terms ea eb h =
    ap (sub (under {k = j} p)) (module_term f n terms u ∙ ap (tree_at f) (sym ea))
    ∙ does_true (dec_tree (sub (under {k = j} p) (tree_at f a)) (sub (under q) (tree_at f b))) h
    ∙ sym (ap (sub (under {k = j} q)) (module_term f n terms t ∙ ap (tree_at f) (sym eb)))

pub run_whole : {f : Bytes} {n a b u z : ℕ} (o t : ℕ) (p q : Bytes) {r : Bool} → Terms f n → SizeIs f u z → 0 < z → z ≤ size_limit → o ≡ 0 → (u ≡ untyped_mark → ⊥)
    → a ≡ place_of n u → b ≡ place_of n t → (r ≡ places_same variable f a p b q) × (r ≡ places_same live f a p b q) → r ≡ true → RunAtIs f u p o t q true
run_whole {f} {n} {a} {b} {u} {z} o t p q terms w h l start some ea eb e er =
    let typed : entry_type f u ≡ (module_of f).term u = entry_term f u some in
    rw (start, typed) (
      stands variable typed (same_tree variable f u t p q terms ea eb (sym e.0 ∙ er)),
      stands live typed (same_tree live f u t p q terms ea eb (sym e.1 ∙ er)),
    )
  where
    stands : (k : RegionKind) → entry_type f u ≡ (module_of f).term u → sub (under {k = k} p) ((module_of f).term u) ≡ sub (under q) ((module_of f).term t)
        → true ≡ does (dec_run (flat (module_of f) (sub (under {k = k} p) ((module_of f).term u))) (position_at (flat (module_of f) (sub (under {k = k} p) ((module_of f).term u))) 0) (flat (module_of f) (sub (under q) ((module_of f).term t))))
    stands k typed same =
        let T : Tree k = sub (under {k = k} p) ((module_of f).term u) in
        let i : z ≡ size (module_of f) T = w.is ∙ ap (size (module_of f)) typed ∙ sym (size_sub (under {k = k} p) (module_of f) ((module_of f).term u)) in
        whole_stands (module_of f) (plain_fields f) T _ (plain_sub (under {k = k} p) ((module_of f).term u) (plain_term f u)) same (omega (arith, i)) (omega (arith, i))
