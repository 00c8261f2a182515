-- That the facts which a typed state holds have one proof at most. Assumes nothing.
use Rattle.std.specs.Prelude.{List, ℕ}
use Rattle.std.proofs.Props.{props}
use Rattle.std.proofs.Common.{ap}
use mathlib.Core.HLevel.{hedberg, Discrete}
use Rattle.words.specs.Bytes.{Bytes}
use Rattle.words.specs.Decide.{map_dec, dec_both}
use Rattle.rules.specs.Types.{variable}
use Rattle.rules.specs.Flat.{Layout, dec_prims}
use Rattle.std.proofs.Math.Decide.{ℕ_discrete}
use Rattle.terms.specs.declared.Extent.{Extent}
use Rattle.positions.specs.Table.{Table, CoreIs, NoStruct}
use Rattle.positions.specs.declared.Core.{Core}
use Rattle.positions.specs.declared.Core.TheVariants.{Term, Fields}
use Rattle.terms.specs.declared.Head.{Head}
use Rattle.terms.specs.declared.Head.TheVariants.{Int, Ptr, Arr, Struct, Untyped}

dec_layouts : Discrete (Layout variable)
dec_layouts L M = map_dec (λ h. rw (h.0, h.1)) (λ e. (ap (λ (x : Layout variable). x.size) e, ap (λ (x : Layout variable). x.prims) e)) (dec_both (ℕ_discrete L.size M.size) (dec_prims L.prims M.prims))

Layout-set : IsSet (Layout variable)
Layout-set = hedberg dec_layouts

Extent-set : IsSet Extent
Extent-set = Prim.hlevel props

NoStruct-prop : (h : Head) → IsProp (NoStruct h)
NoStruct-prop (Int w) = Prim.hlevel props
NoStruct-prop (Ptr a r) = Prim.hlevel props
NoStruct-prop (Arr n a) = Prim.hlevel props
NoStruct-prop (Struct N n d) = Prim.hlevel props
NoStruct-prop (Untyped n r) = Prim.hlevel props

CoreIs-prop : (f : Bytes) (p : ℕ) (c : Core) → IsProp (CoreIs f p c)
CoreIs-prop f p (Term c) = Prim.hlevel (props, Layout-set, NoStruct-prop)
CoreIs-prop f p (Fields N d) = Prim.hlevel (props, Layout-set)

pub Table-prop : (f : Bytes) (n k : ℕ) (tab : List ℕ) → IsProp (Table f n k tab)
Table-prop f n k tab = Prim.hlevel (props, Extent-set, CoreIs-prop)
