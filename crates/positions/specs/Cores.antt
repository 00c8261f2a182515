-- Cores: arrays of one taken off a term, structs whose only field is a struct taken off a struct, and both off a term. Assumes nothing.
use Rattle.std.specs.Prelude.{◌≡◌, refl, List, [], ◌∷◌, map, ℕ, ◌+◌, ◌≤◌, ◌<◌}
use Rattle.std.proofs.Common.{sym, ap, ap₂, ◌∙◌, append-nil, le_refl, add-zero, arith}
use Rattle.words.specs.Bytes.{Bytes}
use Rattle.rules.specs.Types.{RegionKind, variable, Region, arg}
use Rattle.rules.specs.Flat.{Placed, at, Layout, empty, moved, packed, copies_of, copies, placed_in, sub_layout}
use Rattle.layout.specs.Prims.{moved_zero, copies_sized, copies_fit, sub_layout_size}
use Rattle.terms.specs.declared.Head.TheVariants.{Arr, Struct}
use Rattle.terms.specs.Heads.{args_of, head_of}
use Rattle.terms.specs.Extents.{Terms, field_place, field_count, firsts}
use Rattle.terms.specs.Compare.{byte_under, under, sub_same}
use Rattle.positions.specs.Table.{term_layout, struct_layout, Bare, own_byte, Ends, InStruct}
use Rattle.positions.specs.TableLaws.{layout_arr, layout_struct, struct_sized}
use Rattle.positions.specs.Positions.{Keeps, arg_byte, own_args, under_args, placed_placed, before, field, struct_fields, more_packed}

-- ---- arrays of one

copies_one : {k : RegionKind} (L : Layout k) → (copies 1 L).size ≤ 256 → copies 1 L ≡ L
unfolding copies_of
copies_one {k} L h =
    let fits = copies_fit 1 L h in
    copies_sized 1 L fits ∙ ap₂ (λ (s : ℕ) (l : List (Placed k)). record { size = s; prims = l }) (add-zero L.size) (append-nil L.prims)

pub bare_one : (f : Bytes) (p c a r : ℕ) → head_of f p ≡ Arr c a → c ≡ 1 → a < p → Bare f a r → Bare f p r
bare_one f p c a r e one less bare = record {
  low = let l = bare.low in omega arith;
  same = λ k h.
      let z : term_layout f k p ≡ copies 1 (term_layout f k a) = layout_arr f k p c a e ∙ ap (λ (x : ℕ). copies x (term_layout f k a)) one in
      let w : term_layout f k p ≡ term_layout f k a = z ∙ copies_one (term_layout f k a) (rw z at h) in
      w ∙ bare.same k (rw w at h);
}

-- ---- structs of one field

sub_alike : {j k : RegionKind} (σ τ : Region j → Region k) → ((v : Region j) → σ v ≡ τ v) → (L : Layout j) → sub_layout σ L ≡ sub_layout τ L
unfolding sub_layout
sub_alike {j} {k} σ τ h L = ap (λ (l : List (Placed k)). record { size = L.size; prims = l }) (go L.prims)
  where
    go : (l : List (Placed j)) → map (placed_in σ) l ≡ map (placed_in τ) l
    go [] = refl
    go (at d T ∷ l) = ap₂ {C = List (Placed k)} ◌∷◌ (ap {B = Placed k} (at d) (sub_same σ τ h T)) (go l)

sub_both : {i j k : RegionKind} (σ : Region j → Region k) (τ : Region i → Region j) (ρ : Region i → Region k) → ((v : Region i) → σ (τ v) ≡ ρ v) → (L : Layout i) → sub_layout σ (sub_layout τ L) ≡ sub_layout ρ L
unfolding sub_layout
sub_both {i} {j} {k} σ τ ρ h L = ap (λ (l : List (Placed k)). record { size = L.size; prims = l }) (go L.prims)
  where
    go : (l : List (Placed i)) → map (placed_in σ) (map (placed_in τ) l) ≡ map (placed_in ρ) l
    go [] = refl
    go (x ∷ l) = ap₂ {C = List (Placed k)} ◌∷◌ (placed_placed σ τ ρ h x) (go l)

packed_empty : {k : RegionKind} (L : Layout k) → packed empty L ≡ L
packed_empty {k} L = let z : 0 + L.size ≡ L.size = omega arith in ap₂ (λ (s : ℕ) (l : List (Placed k)). record { size = s; prims = l }) z (go L.prims)
  where
    go : (l : List (Placed k)) → map (moved 0) l ≡ l
    go [] = refl
    go (x ∷ l) = ap₂ {C = List (Placed k)} ◌∷◌ (moved_zero x) (go l)

-- a struct of one field is that field
one_field : (f : Bytes) (n N : ℕ) → Terms f n → field_count f n N ≡ 1 → (struct_layout f N).size ≤ 256 → struct_layout f N ≡ field f n N 0
unfolding firsts
one_field f n N is one fits =
    let e : struct_layout f N ≡ before f n N 1 = struct_fields f n N is ∙ ap (before f n N) one in
    e ∙ more_packed f n N 0 (rw e at fits) ∙ packed_empty (field f n N 0)

-- the struct in it, where it is one of a struct
module _ (f : Bytes) (n N : ℕ) (is : Terms f n) (one : field_count f n N ≡ 1) (q : ℕ) (bare : Bare f (field_place f n N 0) q)
    (M c d : ℕ) (head : head_of f q ≡ Struct M c d) (less : M < N) where
  within : (struct_layout f N).size ≤ 256 → struct_layout f N ≡ sub_layout (arg (args_of d c)) (struct_layout f M)
  within s = let e = one_field f n N is one s in e ∙ bare.same N (rw e at s) ∙ layout_struct f N q M c d head less

  pub ends_on : (to inside : Bytes) → Keeps to → ((v : ℕ) → byte_under inside v ≡ arg_byte to d c v) → (O e : ℕ) → Ends f M inside O e → Ends f N to O e
  ends_on to inside keeps h O e end = record {
    low = let l = end.low in omega arith;
    word = end.word;
    same = λ s.
        let w = within s in
        let m : (struct_layout f M).size ≤ 256 = omega (arith, s, ap (λ (L : Layout variable). L.size) w, sub_layout_size (arg (args_of d c)) (struct_layout f M)) in
        ap (sub_layout (under {k = variable} to)) w ∙ sub_both (under {k = variable} to) (arg (args_of d c)) (under inside) (under_args to inside d c keeps h) (struct_layout f M) ∙ end.same m;
  }

pub ends_here : (f : Bytes) (N : ℕ) (to : Bytes) (d : ℕ) → d < 4294967296 → ((v : ℕ) → byte_under to v ≡ own_byte d 4 v) → Ends f N to N d
ends_here f N to d w h = record { low = le_refl N; word = w; same = λ s. sym (sub_alike (arg (args_of d 4)) (under {k = variable} to) (own_args to d 4 h) (struct_layout f N)) }

-- ---- of a term

pub core_fields : (f : Bytes) (p b : ℕ) → Bare f p b → (N c d : ℕ) → head_of f b ≡ Struct N c d → N < 256 → (to : Bytes) → ((v : ℕ) → byte_under to v ≡ own_byte d c v)
    → (M e : ℕ) → Ends f N to M e → InStruct f p M e
core_fields f p b bare N c d head small to h M e end = record {
  number = let l = end.low in omega arith;
  word = end.word;
  known = λ k s. let l = end.low in let z = bare.same k s in let m = struct_sized f k b N c d head (rw z at s) in omega arith;
  same = λ k s.
      let z = bare.same k s in
      let y = layout_struct f k b N c d head (struct_sized f k b N c d head (rw z at s)) in
      let m : (struct_layout f N).size ≤ 256 = omega (arith, s, ap (λ (L : Layout variable). L.size) (z ∙ y), sub_layout_size (arg (args_of d c)) (struct_layout f N)) in
      z ∙ y ∙ sub_alike (arg (args_of d c)) (under {k = variable} to) (own_args to d c h) (struct_layout f N) ∙ end.same m;
}
