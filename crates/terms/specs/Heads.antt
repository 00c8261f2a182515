-- A term's record as a head: its form, with the inner term by place. The place of a term is one more than its number, and
-- place 0 is what is not there. Assumes nothing.
use Rattle.std.specs.Prelude.{cond, List, ℕ, zero, suc, ◌/◌, ◌%◌, ltb, eqb}
use Rattle.words.specs.Bytes.{Bytes, list_of}
use Rattle.rules.specs.File.{record_of, kind_integer, kind_pointer, kind_array, kind_untyped}
use Rattle.rules.specs.Types.{variable, Variable, region, Tree, int, ptr, arr, struct, raw_ptr}
use Rattle.rules.specs.Decode.{no_tree, tree_of, trees_of}
use Rattle.rules.specs.declared.Record.{Record}
use Rattle.terms.specs.declared.Head.{Head}
use Rattle.terms.specs.declared.Head.TheVariants.{Int, Ptr, Arr, Struct, Untyped}

-- byte j of the number d, as `byte_of_d` has it
abbrev pub digit : ℕ → ℕ → ℕ
digit d zero = d % 256
digit d (suc zero) = d / 256 % 256
digit d (suc (suc zero)) = d / 65536 % 256
digit d (suc (suc (suc j))) = d / 16777216

-- the regions that the number of a struct term holds
unfoldable pub args_of : ℕ → ℕ → List Variable
args_of d n = list_of (λ j. region (digit d j)) n

-- the place of term t, where n terms are there
unfoldable pub place_of : ℕ → ℕ → ℕ
place_of n t = cond (ltb t n) (suc t) 0

-- the tree at a place
unfoldable pub tree_at : Bytes → ℕ → Tree variable
tree_at f zero = no_tree
tree_at f (suc t) = tree_of (trees_of f t) (record_of f t)

-- the head of the term t with record x
unfoldable pub head_from : ℕ → Record → Head
head_from t x =
    cond (eqb x.kind kind_integer) (Int x.a)
    (cond (eqb x.kind kind_pointer) (Ptr (place_of t x.a) x.b)
    (cond (eqb x.kind kind_array) (Arr x.d (place_of t x.a))
    (cond (eqb x.kind kind_untyped) (Untyped x.d x.a)
    (Struct x.a x.b x.d))))

unfoldable pub head_of : Bytes → ℕ → Head
head_of f zero = Int 1
head_of f (suc t) = head_from t (record_of f t)

-- a tree from a head, the place inside read by g
unfoldable pub grow : (ℕ → Tree variable) → Head → Tree variable
grow g (Int w) = int w
grow g (Ptr a r) = ptr (g a) (region r)
grow g (Arr n a) = arr n (g a)
grow g (Struct N n d) = struct N (args_of d n)
grow g (Untyped n r) = raw_ptr n (region r)

-- a head by numbers: its form, what it writes itself, the place inside (0 where there is none), its region (nowhere), its
-- arguments by how many and the number that holds them
abbrev pub form_no : Head → ℕ
form_no (Int w) = 1
form_no (Ptr a r) = 2
form_no (Arr n a) = 3
form_no (Struct N n d) = 4
form_no (Untyped n r) = 11

abbrev pub main_no : Head → ℕ
main_no (Int w) = w
main_no (Ptr a r) = 0
main_no (Arr n a) = n
main_no (Struct N n d) = N
main_no (Untyped n r) = n

abbrev pub inner_no : Head → ℕ
inner_no (Int w) = 0
inner_no (Ptr a r) = a
inner_no (Arr n a) = a
inner_no (Struct N n d) = 0
inner_no (Untyped n r) = 0

abbrev pub region_no : Head → ℕ
region_no (Int w) = 255
region_no (Ptr a r) = r
region_no (Arr n a) = 255
region_no (Struct N n d) = 255
region_no (Untyped n r) = r

abbrev pub args_no : Head → ℕ
args_no (Int w) = 0
args_no (Ptr a r) = 0
args_no (Arr n a) = 0
args_no (Struct N n d) = n
args_no (Untyped n r) = 0

abbrev pub word_no : Head → ℕ
word_no (Int w) = 0
word_no (Ptr a r) = 0
word_no (Arr n a) = 0
word_no (Struct N n d) = d
word_no (Untyped n r) = 0
