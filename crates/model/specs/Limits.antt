-- The limits that documents 01 and 02 set, each stated once, with its words.
use Rattle.std.specs.Prelude.{ℕ}

-- "A name is 1 to 16 of them": users, roles, login keys and the names of environment lines
abbrev pub max_name : ℕ
max_name = 16

-- the same limit for the keys of a record, the names in a policy path and the values of environment lines
abbrev pub max_key : ℕ
max_key = 16

-- "a path of 1 to 6 keys", "1 to 6 steps", "six keys deep at most"
abbrev pub max_depth : ℕ
max_depth = 6

-- "a string of 0 to 32 bytes"
abbrev pub max_string : ℕ
max_string = 32

-- "a whole number from −2,147,483,648 to 2,147,483,647": how large without its sign
abbrev pub max_positive : ℕ
max_positive = 2147483647

abbrev pub max_negative : ℕ
max_negative = 2147483648

-- "At most 256 fields are held"
abbrev pub max_fields : ℕ
max_fields = 256

-- "brackets with 1 to 4 names"
abbrev pub max_listed : ℕ
max_listed = 4

-- "a policy path that would need more than 121 bytes so spelled is not accepted"
abbrev pub max_path_text : ℕ
max_path_text = 121

-- "At most 32" users
abbrev pub max_users : ℕ
max_users = 32

-- "The allowance is 0 to 256"
abbrev pub max_quota : ℕ
max_quota = 256

-- "At most 16 lines a user"
abbrev pub max_bindings : ℕ
max_bindings = 16

-- "At most 64" policy lines
abbrev pub max_rules : ℕ
max_rules = 64

-- "longer than 65,536 bytes"
abbrev pub max_text : ℕ
max_text = 65536

-- "one line of at most 256 bytes"
abbrev pub max_line : ℕ
max_line = 256

-- "A session number is decimal, .. at most 4,294,967,295"
abbrev pub max_session : ℕ
max_session = 4294967295

-- "fewer than 32 numbers"
abbrev pub list_room : ℕ
list_room = 32

-- "65,536 times the user's place"
abbrev pub per_user : ℕ
per_user = 65536

-- "The logins of a user end at 65,535" (02, 1)
abbrev pub max_logins : ℕ
max_logins = 65535

-- "A copy never exceeds 51,069 bytes"
abbrev pub max_copy : ℕ
max_copy = 51069
