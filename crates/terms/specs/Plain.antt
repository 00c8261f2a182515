-- No term of a file is the type of an untyped region, nor has it inside: so a term that has a size starts with its first primitive
-- (`distance_zero`, layout/Flat). Assumes nothing.
use Rattle.std.proofs.Common.{sym, arith}
use Rattle.std.proofs.Math.Path.{subst}
use Prim.Native.Nat.{ℕ, zero, suc, ◌<◌}
use Rattle.std.specs.Prelude.{eqb, get_or}
use Rattle.words.specs.Bytes.{Bytes, list_from}
use Rattle.words.specs.Choose.{cond_split}
use Rattle.words.specs.Decide.{Each, none, more}
use Rattle.rules.specs.File.{record_of}
use Rattle.rules.specs.Types.{RegionKind, variable, Region, Tree, int, ptr, arr, struct, raw_ptr, bytes, sub}
use Rattle.rules.specs.Decode.{no_tree, tree_of, trees_of, fields_of, module_of}
use Rattle.rules.specs.declared.Record.{Record}
use Rattle.layout.specs.Flat.{Plain, PlainFields}
use Rattle.terms.specs.Heads.{place_of, tree_at}
use Rattle.terms.specs.HeadLaws.{place_le, trees_at}

-- under a substitution too
pub plain_sub : {j k : RegionKind} (σ : Region j → Region k) (T : Tree j) → Plain T → Plain (sub σ T)
unfolding sub
plain_sub σ (int w) h = tt
plain_sub σ (ptr T r) h = tt
plain_sub σ (arr n T) h = plain_sub σ T h
plain_sub σ (struct N rs) h = tt
plain_sub σ (raw_ptr n r) h = tt
plain_sub σ bytes h = h

each_from : (P : Tree variable → Type 0) (g : ℕ → Tree variable) → ((i : ℕ) → P (g i)) → (i n : ℕ) → Each P (list_from g i n)
unfolding list_from
each_from P g h i zero = none
each_from P g h i (suc n) = more (h i) (each_from P g h (suc i) n)

module _ (f : Bytes) where
  plain_of : (t : ℕ) (x : Record) → ((i : ℕ) → Plain (get_or (trees_of f t) i no_tree)) → Plain (tree_of (trees_of f t) x)
  unfolding tree_of
  plain_of t x h =
      cond_split (λ (T : Tree variable). Plain T) (eqb x.kind 1) _ _ (λ _. tt)
      (λ _. cond_split (λ (T : Tree variable). Plain T) (eqb x.kind 2) _ _ (λ _. tt)
      (λ _. cond_split (λ (T : Tree variable). Plain T) (eqb x.kind 3) _ _ (λ _. h x.a)
      (λ _. cond_split (λ (T : Tree variable). Plain T) (eqb x.kind 11) _ _ (λ _. tt) (λ _. tt))))

  plain_below : (b p : ℕ) → p < b → Plain (tree_at f p)
  unfolding tree_at
  plain_below zero p l = absurd (omega arith)
  plain_below (suc b) zero l = tt
  plain_below (suc b) (suc t) l =
      plain_of t (record_of f t) (λ i. let m = place_le t i in subst (λ (T : Tree variable). Plain T) (sym (trees_at f t i)) (plain_below b (place_of t i) (omega arith)))

  plain_at : (p : ℕ) → Plain (tree_at f p)
  plain_at p = plain_below (suc p) p (omega arith)

  plain_tree : (n i : ℕ) → Plain (get_or (trees_of f n) i no_tree)
  plain_tree n i = subst (λ (T : Tree variable). Plain T) (sym (trees_at f n i)) (plain_at (place_of n i))

  pub plain_term : (t : ℕ) → Plain ((module_of f).term t)
  unfolding module_of
  plain_term t = plain_tree (module_of f).terms t

  pub plain_fields : PlainFields (module_of f)
  unfolding module_of fields_of
  plain_fields N l = each_from (λ T. Plain T) _ (λ i. plain_tree (module_of f).terms _) 0 _
