-- Document 01, "The operand classes of kinds 16 to 34 stand in one table", and which values an operand of each class may
-- have (refusal 4). Assumes nothing.
use Rattle.std.specs.Prelude.{Bool, ◌&&◌, ◌||◌, List, [], ◌∷◌, ℕ, ◌-◌, ltb, leb, eqb, get_or}
use Rattle.rules.specs.File.{first_arithmetic}

-- the operations of 18: 0 to 9 take and give integers of one width; "10 signed i32 quotient"; "11 equal, 12 less unsigned,
-- 13 less signed"
abbrev pub signed_quotient : ℕ
signed_quotient = 10

abbrev pub last_operation : ℕ
last_operation = 13

-- for each kind, the classes of a, b, c and d
pub record Classes : Type 0 where
  pub a : ℕ
  pub b : ℕ
  pub c : ℕ
  pub d : ℕ

-- the classes
abbrev pub unused : ℕ
unused = 0

abbrev pub register : ℕ
register = 1

abbrev pub function : ℕ
function = 2

abbrev pub target : ℕ
target = 3

abbrev pub operation : ℕ
operation = 4

abbrev pub any : ℕ
any = 5

abbrev pub regions : ℕ
regions = 6

abbrev pub row : ℕ → ℕ → ℕ → ℕ → Classes
row a b c d = record { a = a; b = b; c = c; d = d }

-- from kind 16 on
unfoldable pub operand_table : List Classes
operand_table =
    row register unused unused any  -- 16
    ∷ row register register unused unused  -- 17
    ∷ row register register register operation  -- 18
    ∷ row register register unused unused  -- 19
    ∷ row register register unused unused  -- 20
    ∷ row register register unused unused  -- 21
    ∷ row register register unused unused  -- 22
    ∷ row register register unused any  -- 23
    ∷ row register register register unused  -- 24
    ∷ row register register unused unused  -- 25
    ∷ row register register unused unused  -- 26
    ∷ row register unused unused unused  -- 27
    ∷ row register unused unused unused  -- 28
    ∷ row register unused register unused  -- 29
    ∷ row unused register unused unused  -- 30
    ∷ row unused unused unused target  -- 31
    ∷ row register unused unused target  -- 32
    ∷ row register function unused regions  -- 33
    ∷ row register unused unused unused  -- 34
    ∷ []

unfoldable pub classes_of : ℕ → Classes
classes_of k = get_or operand_table (k - first_arithmetic) (row unused unused unused unused)

-- "a kind, operation, register, region, function or target out of its range, a byte set that is unused .. are 4": operand v
-- of a class, in a function of so many registers and instructions; whether function v is there, and whether v's region
-- bytes are right, is said by the two tests
unfoldable pub operand_fits : ℕ → ℕ → ℕ → ℕ → Bool → Bool → Bool
operand_fits class v registers instructions functionThere regionsRight =
    ((eqb class unused && eqb v 0) || (eqb class register && ltb v registers))
    || (((eqb class function && functionThere) || (eqb class target && ltb v instructions))
    || ((eqb class operation && leb v last_operation) || (eqb class any || (eqb class regions && regionsRight))))
