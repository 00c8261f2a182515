-- The types of an accepted file are those that the laws of layouts take (`TypesOk`); none of them is empty, so that it has places in a
-- page. Assumes nothing.
use Rattle.std.proofs.Common.{sym, subst, inl, inr}
use mathlib.Core.List.{List}
use Rattle.std.specs.Prelude.{ℕ, ◌<◌, ◌≤◌}
use native.Mathlib.Omega.{arith}
use Rattle.words.specs.Bytes.{list_from}
use Rattle.words.specs.ByteLaws.{length_list_from}
use Rattle.words.specs.Decide.{Each, none, more}
use Rattle.rules.specs.Limits.{size_limit}
use Rattle.rules.specs.Types.{variable, Variable, region, Tree, struct}
use Rattle.rules.specs.Module.{Module}
use Rattle.rules.specs.Flat.{sub_layout, flat_with, flat, struct_flat, size}
use Rattle.rules.specs.WellTyped.{WellTyped}
use Rattle.layout.specs.TypesOk.{Width, one, two, four, GoodTree, good_int, good_ptr, good_arr, good_struct, good_raw, RegionTree, typed, untyped, TypesOk}
use Rattle.layout.specs.Flat.{size_pos}
use Rattle.typing.specs.Types.{Deep, deep_int, deep_ptr, deep_arr, deep_struct, deep_raw, DeepRegion, deep_typed, deep_untyped, deep_ok, DeepModule, Width as OneWidth}

good_width : {w : ℕ} → OneWidth w → Width w
good_width (inl e) = subst Width (sym e) one
good_width (inr (inl e)) = subst Width (sym e) two
good_width (inr (inr e)) = subst Width (sym e) four

pub good_deep : {m : Module} {T : Tree variable} → Deep m T → GoodTree m T
good_deep (deep_int k w) = good_int (good_width w)
good_deep (deep_ptr k d) = good_ptr (good_deep d)
good_deep (deep_arr k some few d) = good_arr some k.sized (good_deep d)
good_deep (deep_struct k) = good_struct k.sized k.counts
good_deep (deep_raw k some few) = good_raw some few

pub good_region : {m : Module} {T : Tree variable} → DeepRegion m T → RegionTree m T
good_region (deep_typed d) = typed (good_deep d)
good_region deep_untyped = untyped

good_each : {m : Module} {l : List (Tree variable)} → Each (Deep m) l → Each (GoodTree m) l
good_each none = none
good_each (more d e) = more (good_deep d) (good_each e)

module _ (m : Module) (t : WellTyped m) (d : DeepModule m) where
  pub types_ok : TypesOk m
  types_ok = record {
    some = d.some_fields;
    fields = λ N h. good_each (d.fields N);
    uses = λ N h. (t.structs N h).uses;
    region_types = λ g i h l. good_region ((d.function g).region_type i);
    register_types = λ g a h l. good_deep ((d.function g).register_type a);
    results = λ g h. good_deep (d.function g).result;
  }

  pub deep_sized : {T : Tree variable} → Deep m T → (0 < size m T) × (size m T ≤ size_limit)
  deep_sized {T} k = (size_pos m types_ok T (good_deep k), (deep_ok k).sized)

  -- an untyped region has places of one byte
  pub region_sized : {T : Tree variable} → DeepRegion m T → (0 < size m T) × (size m T ≤ size_limit)
  unfolding flat flat_with
  region_sized (deep_typed k) = deep_sized k
  region_sized deep_untyped = (omega arith, omega arith)

  pub struct_sized : (N : ℕ) → N < m.structs → (0 < (struct_flat m N).size) × ((struct_flat m N).size ≤ size_limit)
  unfolding flat flat_with struct_flat sub_layout
  struct_sized N h =
      let rs : List Variable = list_from (λ i. region i) 0 (m.arity N) in
      (size_pos m types_ok (struct N rs) (good_struct (t.structs N h).sized (length_list_from (λ i. region i) 0 (m.arity N))), (t.structs N h).sized)
