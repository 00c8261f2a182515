-- Document 01, "The module file", first paragraph: blocks, records and kinds; and refusals 1, 2 and 3. Every read is total:
-- past the end of the file there are zeros. Assumes nothing.
use Rattle.std.specs.Prelude.{Bool, cond, ◌&&◌, ◌||◌, ℕ, zero, suc, ◌+◌, ◌*◌, ◌/◌, ◌%◌, leb, eqb, length}
use Rattle.words.specs.Bytes.{Bytes, byte_at, number}
use Rattle.words.specs.First.{sum_below}
use Rattle.rules.specs.Limits.{block_bytes, most_blocks, block_records, record_bytes, check_at, bad_file, bad_block}
use Rattle.rules.specs.Stages.{Stage}
use Rattle.rules.specs.declared.Record.{Record}
use Rattle.rules.specs.declared.Group.{Group}
use Rattle.rules.specs.declared.Group.TheVariants.{Arithmetic, Memory, Control}

-- ---- blocks

abbrev pub blocks : Bytes → ℕ
blocks f = length f / block_bytes

-- "1 to 64 blocks of 512 bytes"
abbrev pub length_right : Bytes → Bool
length_right f = eqb (length f % block_bytes) 0 && (leb 1 (blocks f) && leb (blocks f) most_blocks)

-- where in a block the number of blocks and the records stand
abbrev pub count_in : ℕ
count_in = 2

abbrev pub records_in : ℕ
records_in = 4

-- "bytes 0-1 the block's place from 0, bytes 2-3 the number of blocks"
abbrev pub place_right : Bytes → ℕ → Bool
place_right f i = eqb (number 2 f (block_bytes * i)) i && eqb (number 2 f (block_bytes * i + count_in)) (blocks f)

-- "the sum over i = 0..507 of (i + 1) times byte i": the first n terms of the sum, in the block from byte base on
unfoldable pub check_sum : Bytes → ℕ → ℕ → ℕ
check_sum f base n = sum_below n (λ i. (i + 1) * byte_at f (base + i))

-- "bytes 508-511 the block's check"
abbrev pub check_right : Bytes → ℕ → Bool
check_right f i = eqb (check_sum f (block_bytes * i) check_at) (number 4 f (block_bytes * i + check_at))

-- "1 file length": one test, its place 0
abbrev pub length_stage : Bytes → Stage
length_stage f = record { count = 1; test = λ p. length_right f; number = λ p. bad_file; place = λ p. 0 }

-- "2 place or count of a block, 3 its check: block by block, 2 first": two tests for each block
unfoldable pub block_test : Bytes → ℕ → Bool
block_test f p = cond (eqb (p % 2) 0) (place_right f (p / 2)) (check_right f (p / 2))

abbrev pub block_stage : Bytes → Stage
block_stage f = record { count = 2 * blocks f; test = block_test f; number = λ p. bad_block + p % 2; place = λ p. p / 2 }

-- ---- records

-- "bytes 4-507 63 records of 8 bytes"; "Records are numbered through the file from 0"
unfoldable pub records : Bytes → ℕ
records f = block_records * blocks f

unfoldable pub record_start : ℕ → ℕ
record_start r = block_bytes * (r / block_records) + records_in + record_bytes * (r % block_records)

-- "Byte 0 is the kind, bytes 1, 2, 3 are a, b, c, bytes 4-7 are d"
unfoldable pub record_of : Bytes → ℕ → Record
record_of f r = let o = record_start r in record {
  kind = byte_at f o;
  a = byte_at f (o + 1);
  b = byte_at f (o + 2);
  c = byte_at f (o + 3);
  d = number 4 f (o + 4);
}

-- byte j (0 to 3) of d, the lowest first
abbrev pub byte_of_d : Record → ℕ → ℕ
byte_of_d x zero = x.d % 256
byte_of_d x (suc zero) = x.d / 256 % 256
byte_of_d x (suc (suc zero)) = x.d / 65536 % 256
byte_of_d x (suc (suc (suc j))) = x.d / 16777216

-- bytes 1 to 7 of a record, i from 0: the entries of kinds 6, 8, 9 and 35
abbrev pub entry_of : Record → ℕ → ℕ
entry_of x zero = x.a
entry_of x (suc zero) = x.b
entry_of x (suc (suc zero)) = x.c
entry_of x (suc (suc (suc j))) = byte_of_d x j

-- "7 function: a region parameters, b local regions, c registers; byte 4 the return term, byte 5 the parameters, bytes 6-7
-- the instructions"
abbrev pub regions_of : Record → ℕ
regions_of x = x.a + x.b

abbrev pub return_of : Record → ℕ
return_of x = byte_of_d x 0

abbrev pub parameters_of : Record → ℕ
parameters_of x = byte_of_d x 1

abbrev pub instructions_of : Record → ℕ
instructions_of x = x.d / 65536

-- ---- kinds

-- "filler (kind 0, all zero)"
abbrev pub kind_filler : ℕ
kind_filler = 0

-- "1 integer", "2 pointer", "3 array", "4 name a with b region arguments"
abbrev pub kind_integer : ℕ
kind_integer = 1

abbrev pub kind_pointer : ℕ
kind_pointer = 2

abbrev pub kind_array : ℕ
kind_array = 3

abbrev pub kind_struct : ℕ
kind_struct = 4

-- document 02, P3: "the untyped pointer .. as term kind 11"; "Byte 255 in record 8 marks a region untyped"
abbrev pub kind_untyped : ℕ
kind_untyped = 11

abbrev pub untyped_mark : ℕ
untyped_mark = 255

-- "5 name with a regions and b fields, then 6: field terms". (Records and walk keep the file's word, name, for what a module
-- calls a struct.)
abbrev pub kind_name : ℕ
kind_name = 5

abbrev pub kind_fields : ℕ
kind_fields = 6

-- "7 function", "8 .. region types", "9 .. register types"
abbrev pub kind_function : ℕ
kind_function = 7

abbrev pub kind_regions : ℕ
kind_regions = 8

abbrev pub kind_registers : ℕ
kind_registers = 9

-- "33 calls function b ..; record 35 follows"
abbrev pub kind_call : ℕ
kind_call = 33

abbrev pub kind_arguments : ℕ
kind_arguments = 35

-- "Which rule a step follows is chosen by the kind, in the ranges above": arithmetic 16 to 22, memory 23 to 28, control
-- 29 to 34
abbrev pub first_arithmetic : ℕ
first_arithmetic = 16

abbrev pub first_memory : ℕ
first_memory = 23

abbrev pub last_memory : ℕ
last_memory = 28

abbrev pub first_control : ℕ
first_control = 29

abbrev pub last_control : ℕ
last_control = 34

-- document 02, P3: kinds 36 to 39 are memory too; 35 between is no instruction
abbrev pub first_untyped : ℕ
first_untyped = 36

abbrev pub last_untyped : ℕ
last_untyped = 39

abbrev pub within : ℕ → ℕ → ℕ → Bool
within k lo hi = leb lo k && leb k hi

-- the group of an instruction's kind. (What is no instruction is refused with 4 before its group is asked; here it counts as
-- arithmetic.)
unfoldable pub group_of : ℕ → Group
group_of k = cond (within k first_memory last_memory || within k first_untyped last_untyped) Memory (cond (within k first_control last_control) Control Arithmetic)

abbrev pub is_term : ℕ → Bool
is_term k = within k kind_integer kind_struct

abbrev pub is_instruction : ℕ → Bool
is_instruction k = within k first_arithmetic last_control
