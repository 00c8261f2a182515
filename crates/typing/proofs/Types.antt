-- Every tree that an accepted file's records name is a term at any depth (`Deep`). Assumes nothing.
use Rattle.std.specs.Prelude.{◌≡◌, Bool, false, cond, ◌||◌, List, [], ◌∷◌, ◌++◌, eqb, leb}
use Rattle.std.proofs.Math.Path.{refl, subst}
use Rattle.std.proofs.Common.{sym, ◌∙◌, inl, inr, arith, length-append}
use Rattle.std.proofs.Math.Bool.{true}
use Rattle.std.proofs.lemmas.Bool.{false≢true}
use Prim.Native.Nat.{ℕ, zero, suc, ◌+◌, ◌<◌, ◌≤◌}
use Rattle.std.proofs.Math.Decide.{ℕ_discrete, dec_lt}
use Rattle.std.proofs.Math.ListN.{get_or, get_or-append, get_or-eq_default}
use Rattle.std.proofs.lemmas.List.{get_or_at}
use borrow.Author.Tests.{eqb-true, leb-true}
use Rattle.words.specs.Bytes.{Bytes, list_from}
use Rattle.rules.specs.Limits.{size_limit}
use Rattle.words.specs.Decide.{Each, none, more}
use Rattle.words.specs.ByteLaws.{length_list_from}
use Rattle.rules.specs.File.{record_of, entry_of, within, kind_integer, kind_pointer, kind_array, kind_untyped, untyped_mark}
use Rattle.rules.specs.Types.{variable, region, Tree, int, ptr, arr, struct, raw_ptr, bytes}
use Rattle.rules.specs.Module.{Module}
use Rattle.rules.specs.Walk.{whole}
use Rattle.rules.specs.Decode.{no_tree, region_bytes, tree_of, trees_of, fields_of, struct_start, region_type_of, function_of, module_of}
use Rattle.rules.specs.WellTyped.{TermOk}
use Rattle.rules.specs.Verdict.{verdict_of, IsAccepted}
use Rattle.rules.specs.declared.Record.{Record}
use Rattle.typing.specs.Tests.{left, right}
use Rattle.typing.specs.Walk.{Fits, TermRecord, good}
use Rattle.typing.specs.Accepted.{framed, records_fit, accepted}
use Rattle.typing.specs.Types.{Width, Deep, deep_int, deep_ptr, deep_arr, deep_struct, deep_raw, DeepRegion, deep_typed, deep_untyped, trees_length, deep_none, DeepModule}

is_width : (w : ℕ) → (eqb w 1 || (eqb w 2 || eqb w 4)) ≡ true → Width w
is_width w e = go (eqb w 1) (eqb w 2) (eqb w 4) refl refl refl e
  where
    go : (a b c : Bool) → eqb w 1 ≡ a → eqb w 2 ≡ b → eqb w 4 ≡ c → (a || (b || c)) ≡ true → Width w
    go true b c p q r e = inl (eqb-true w 1 p)
    go false true c p q r e = inr (inl (eqb-true w 2 q))
    go false false true p q r e = inr (inr (eqb-true w 4 r))
    go false false false p q r e = absurd (false≢true e)

module _ (m : Module) where
  -- a record's tree, where those before it are deep
  deep_tree : (ts : List (Tree variable)) (x : Record) → ((i : ℕ) → Deep m (get_or ts i no_tree)) → TermRecord x → TermOk m (tree_of ts x) → Deep m (tree_of ts x)
  unfolding tree_of
  deep_tree ts x h rec ok = go (eqb x.kind kind_integer) (eqb x.kind kind_pointer) (eqb x.kind kind_array) (eqb x.kind kind_untyped) refl refl refl ok
    where
      some : within x.d 1 size_limit ≡ true → 1 ≤ x.d
      some e = leb-true 1 x.d (left (leb 1 x.d) (leb x.d size_limit) e)

      few : within x.d 1 size_limit ≡ true → x.d ≤ size_limit
      few e = leb-true x.d size_limit (right (leb 1 x.d) (leb x.d size_limit) e)

      tree : Bool → Bool → Bool → Bool → Tree variable
      tree a b c u =
          cond a (int x.a) (cond b (ptr (get_or ts x.a no_tree) (region x.b)) (cond c (arr x.d (get_or ts x.a no_tree))
          (cond u (raw_ptr x.d (region x.a)) (struct x.a (region_bytes x x.b)))))

      go : (a b c u : Bool) → eqb x.kind kind_integer ≡ a → eqb x.kind kind_array ≡ c → eqb x.kind kind_untyped ≡ u
          → TermOk m (tree a b c u) → Deep m (tree a b c u)
      go true b c u p q r k = deep_int k (is_width x.a (rec.width p))
      go false true c u p q r k = deep_ptr k (h x.a)
      go false false true u p q r k = deep_arr k (some (rec.count q)) (few (rec.count q)) (h x.a)
      go false false false true p q r k = deep_raw k (some (rec.untyped r)) (few (rec.untyped r))
      go false false false false p q r k = deep_struct k

  deep_trees : (f : Bytes) (n : ℕ) → ((t : ℕ) → t < n → TermRecord (record_of f t)) → ((t : ℕ) → t < n → TermOk m (get_or (trees_of f n) t no_tree))
      → (t : ℕ) → Deep m (get_or (trees_of f n) t no_tree)
  unfolding trees_of
  deep_trees f zero rec ok t = deep_none m
  deep_trees f (suc n) rec ok t = go (dec_lt t n) (ℕ_discrete t n) (λ k. deep_trees f n (λ i l. rec i (omega arith)) k)
    where
      go : Dec (t < n) → Dec (t ≡ n) → (((i : ℕ) → i < n → TermOk m (get_or (trees_of f n) i no_tree)) → (i : ℕ) → Deep m (get_or (trees_of f n) i no_tree))
          → Deep m (get_or (trees_of f n ++ tree_of (trees_of f n) (record_of f n) ∷ []) t no_tree)
      go a b ih = at a b
        where
          lower : (i : ℕ) → Deep m (get_or (trees_of f n) i no_tree)
          lower = ih (λ i l. subst (TermOk m) (get_or-append (trees_of f n) (tree_of (trees_of f n) (record_of f n) ∷ []) no_tree i (omega (arith, trees_length f n))) (ok i (omega arith)))

          last : Deep m (tree_of (trees_of f n) (record_of f n))
          last = deep_tree (trees_of f n) (record_of f n) lower (rec n (omega arith))
              (subst (TermOk m) (get_or_at (trees_of f n) (tree_of (trees_of f n) (record_of f n)) [] no_tree n (trees_length f n)) (ok n (omega arith)))

          at : Dec (t < n) → Dec (t ≡ n) → Deep m (get_or (trees_of f n ++ tree_of (trees_of f n) (record_of f n) ∷ []) t no_tree)
          at (yes h) d = rw (get_or-append (trees_of f n) (tree_of (trees_of f n) (record_of f n) ∷ []) no_tree t (omega (arith, trees_length f n))) (lower t)
          at (no h) (yes e) = rw (get_or_at (trees_of f n) (tree_of (trees_of f n) (record_of f n)) [] no_tree t (trees_length f n ∙ sym e)) last
          at (no h) (no e) =
              rw (get_or-eq_default (trees_of f n ++ tree_of (trees_of f n) (record_of f n) ∷ []) no_tree {n = t} (omega (arith, length-append (trees_of f n) (tree_of (trees_of f n) (record_of f n) ∷ []), trees_length f n))) (deep_none m)

each_from : {P : Tree variable → Type 0} (g : ℕ → Tree variable) → ((i : ℕ) → P (g i)) → (a n : ℕ) → Each P (list_from g a n)
unfolding list_from
each_from g h a zero = none
each_from g h a (suc n) = more (h a) (each_from g h (suc a) n)

region_deep : (m : Module) (ts : List (Tree variable)) → ((i : ℕ) → Deep m (get_or ts i no_tree)) → (v : ℕ) → DeepRegion m (region_type_of ts v)
unfolding region_type_of
region_deep m ts h v = go (eqb v untyped_mark)
  where
    go : (b : Bool) → DeepRegion m (cond b bytes (get_or ts v no_tree))
    go true = deep_untyped
    go false = deep_typed (h v)

pub deep : (f : Bytes) → IsAccepted (verdict_of f) → DeepModule (module_of f)
unfolding module_of fields_of function_of
deep f a =
    let ok : Fits f = records_fit f (framed f a) in
    let ts : List (Tree variable) = trees_of f (whole f).walk.terms in
    let all : (t : ℕ) → Deep (module_of f) (get_or ts t no_tree) =
    deep_trees (module_of f) f (whole f).walk.terms (good f ok).term_records (λ i h. unfold module_of in (accepted f a).terms i h) in
    record {
      term = all;
      fields = λ N. each_from (λ i. get_or ts (entry_of (record_of f (struct_start (whole f).walk.terms N + 1)) i) no_tree)
          (λ i. all (entry_of (record_of f (struct_start (whole f).walk.terms N + 1)) i)) 0 (record_of f (struct_start (whole f).walk.terms N)).b;
      some_fields = λ N h. rw length_list_from ((good f ok).some_fields N h);
      function = λ g. record { result = all _; region_type = λ i. region_deep (module_of f) ts all _; register_type = λ i. all _ };
    }
