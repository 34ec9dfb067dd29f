-- Document 01's worked cases, and some of document 02's requests, as texts, runs and answers; proofs/CasesHold proves what is said of them.
use Rattle.std.specs.Prelude.{ℕ, List, [], ◌∷◌, ◌++◌, map, Bool, true, false, ◌&&◌, eqb, set, replicate}
use Prim.Native.String.{String}
use Rattle.model.specs.Base.{Bytes, text, ◌≐◌}
use Rattle.model.specs.Limits.{list_room}
use Rattle.model.specs.Fields.{order_key, by_order}
use Rattle.model.specs.Refusals.{Result, refused, done}
use Rattle.model.specs.Opening.{State, initial, Texts, Fault, opened, after_opening}
use Rattle.model.specs.Serving.{Act, line, save, Answer, refusal, session, length_is, accepted, outcome}
use Rattle.model.specs.Runs.{end}

-- lines, each ended by 0A
unfoldable pub rows : List String → Bytes
rows [] = []
rows (s ∷ ss) = text s ++ (0x0A ∷ rows ss)

-- ── "One afternoon in the hall" ──
unfoldable pub club_texts : Texts
unfolding rows
club_texts = record {
  users_text = rows (
      "user;role;key;allowance" ∷
      "ann;repairer;k1;4" ∷
      "bob;driver;k2;0" ∷
      "cy;owner;k3;2" ∷ []);
  environments_text = rows (
      "user;name;value" ∷
      "cy;my-engine;e7" ∷ []);
  policy_text = rows (
      "role;access;path" ∷
      "*;READ;$.*.name" ∷
      "repairer;WRITE;$.*.cv.*" ∷
      "driver;READ;$.*.cv['1','29']" ∷
      "owner;WRITE;$[=~my-engine].note" ∷ []);
  record_text = rows ("{\"e7\":{\"name\":\"Tank 7\",\"cv\":{\"1\":3,\"29\":6},\"note\":\"shelf B\"},\"e9\":{\"name\":\"Mail\",\"cv\":{\"1\":12}}}" ∷ []);
}

unfoldable pub club_input : List String
club_input =
    "LOGIN;bob;k2" ∷
    "LOGIN;ann;k1" ∷
    "PUSH;1;$['e7']['cv']['29'];38" ∷
    "PUSH;1;$['e9']['cv']['3'];10" ∷
    "PUSH;65537;$['e7']['cv']['1'];4" ∷
    "GET;65537" ∷ []

unfoldable pub bobs_copy : List String
bobs_copy =
    "role;access;path" ∷
    "driver;READ;$[*]['name']" ∷
    "driver;READ;$[*]['cv']['1','29']" ∷
    "name;value" ∷
    "{\"e7\":{\"cv\":{\"1\":3,\"29\":38},\"name\":\"Tank 7\"},\"e9\":{\"cv\":{\"1\":12},\"name\":\"Mail\"}}" ∷ []

unfoldable pub club_output : List String
club_output =
    "OK;65537" ∷
    "OK;1" ∷
    "OK" ∷
    "TO;65537;$['e7']['cv']['29'];38" ∷
    "OK" ∷
    "NO;16" ∷
    "OK;167" ∷ []

-- ── "Wrong programs that look sound" ──
-- a guest who may read one path, and a record
unfoldable pub guest_texts : String → String → Texts
unfolding rows
guest_texts path record-text = record {
  users_text = rows ("user;role;key;allowance" ∷ "dee;guest;k;0" ∷ []);
  environments_text = rows ("user;name;value" ∷ []);
  policy_text = rows ("role;access;path" ∷ []) ++ (text "*;READ;" ++ rows (path ∷ []));
  record_text = text record-text;
}

unfoldable pub guest_input : Bytes
unfolding rows
guest_input = rows ("LOGIN;dee;k" ∷ "GET;1" ∷ [])

-- ── P1 to P10, and the further cases: entries of a list, with one claim covering it ──
pub data Case : Type 0 where
  -- after these lines, on the tables above, this line has this answer; the number is the buffer's length
  replies : List String → String → ℕ → Answer → Case
  -- the first key sorts before the second
  sorts : String → String → Case
  -- with these lines below the policy's head, the opening is refused by this number in this line
  refuses : List String → ℕ → ℕ → Case

-- an answer as numbers, to be compared
numbers : Answer → List ℕ
numbers (refusal e) = 0 ∷ e ∷ []
numbers (session n) = 1 ∷ n ∷ []
numbers (length_is n) = 2 ∷ n ∷ []
numbers accepted = 3 ∷ []

unfoldable pub asked : ℕ → String → Act
asked room s = line (text s) (replicate room 0) (replicate list_room 0)

unfoldable pub club_state : State
unfolding club_texts
club_state = after_opening initial club_texts

is_fault : ℕ → ℕ → Result Fault State → Bool
is_fault n l (refused f) = eqb f.number n && eqb f.in_text 3 && eqb f.line l
is_fault n l (done s) = false

unfoldable pub passes : Case → Bool
unfolding numbers asked club_state is_fault rows club_texts
passes (replies earlier s room a) = numbers (outcome (end club_state (map (asked room) earlier)) (asked room s)).answer ≐ numbers a
passes (sorts a b) = by_order (order_key (text a) (text b)) true false false
passes (refuses ls n l) = is_fault n l (opened (record {
  users_text = club_texts.users_text;
  environments_text = club_texts.environments_text;
  policy_text = rows ("role;access;path" ∷ ls);
  record_text = club_texts.record_text;
}))

unfoldable pub cases : List Case
cases =
    replies [] "LOGIN;bob;k1" 0 (refusal 12) ∷  -- P1
    replies [] "LOGIN;cy;k3" 0 (session 131073) ∷  -- P2
    replies ("LOGIN;cy;k3" ∷ []) "LOGIN;cy;k3" 0 (refusal 13) ∷  -- P3
    replies [] "GET;2" 0 (refusal 14) ∷  -- P4
    replies ("LOGIN;cy;k3" ∷ []) "PUSH;131073;$['e9']['note'];true" 0 (refusal 16) ∷  -- P5
    sorts "29" "3" ∷  -- P6
    replies ("LOGIN;ann;k1" ∷ []) "PUSH;1;$['e7']['cv']['1'];-2147483648" 0 accepted ∷  -- P7
    replies ("LOGIN;ann;k1" ∷ []) "PUSH;1;$['e7']['cv']['1'];-2147483649" 0 (refusal 11) ∷  -- P8
    refuses ("repairer;WRITE;$.*.cv" ∷ "repairer;WRITE;$.e7.cv.*" ∷ []) 5 3 ∷  -- P9
    refuses ("driver;READ;$.29" ∷ []) 3 2 ∷  -- P10
    []

unfoldable pub further_cases : List Case
unfolding club_input
further_cases =
    -- "Ann's fifth new field is refused 17, her fourth accepted"
    replies ("LOGIN;ann;k1" ∷ "PUSH;1;$['a']['cv']['1'];1" ∷ "PUSH;1;$['a']['cv']['2'];1" ∷ "PUSH;1;$['a']['cv']['3'];1" ∷ []) "PUSH;1;$['a']['cv']['4'];1" 0 accepted ∷
    replies ("LOGIN;ann;k1" ∷ "PUSH;1;$['a']['cv']['1'];1" ∷ "PUSH;1;$['a']['cv']['2'];1" ∷ "PUSH;1;$['a']['cv']['3'];1" ∷ "PUSH;1;$['a']['cv']['4'];1" ∷ []) "PUSH;1;$['a']['cv']['5'];1" 0 (refusal 17) ∷
    -- "GET with 167 bytes succeeds, with 166 gives 15"
    replies club_input "GET;65537" 167 (length_is 167) ∷
    replies club_input "GET;65537" 166 (refusal 15) ∷
    -- no "Separate answers for an unknown user and a wrong key"
    replies [] "LOGIN;dee;k1" 0 (refusal 12) ∷
    []

-- ── 02, 1: LOGOUT ──
-- with bob a repairer too, who may write what ann reads
unfoldable pub workshop_texts : Texts
unfolding rows club_texts
workshop_texts = record {
  users_text = rows (
      "user;role;key;allowance" ∷
      "ann;repairer;k1;1" ∷
      "bob;repairer;k2;0" ∷ []);
  environments_text = rows ("user;name;value" ∷ []);
  policy_text = club_texts.policy_text;
  record_text = club_texts.record_text;
}

-- cy has had all logins but one
unfoldable pub almost_all : State
unfolding club_state
almost_all = record {
  tables = club_state.tables;
  login_states = set club_state.login_states 2 (record { logins = 65534; is_open = false; created = 0 });
  fields = club_state.fields;
}

-- LOGOUT is bob's own request, with no length lent; that ann leaves is none of his
unfoldable pub leaving_acts : List Act
unfolding asked
leaving_acts = map (asked 200) ("LOGIN;bob;k2" ∷ "LOGIN;ann;k1" ∷ "LOGOUT;1" ∷ "LOGOUT;65537" ∷ "LOGOUT;65537" ∷ "LOGIN;bob;k2" ∷ [])

-- ── What bob sends and gets in the afternoon ──
unfoldable pub club_acts : List Act
unfolding asked club_input
club_acts = map (asked 200) club_input

-- ── Another run that bob cannot tell from it: another note and one field more at the start, other acts of the others ──
other_texts : Texts
unfolding rows club_texts
other_texts = record {
  users_text = club_texts.users_text;
  environments_text = club_texts.environments_text;
  policy_text = club_texts.policy_text;
  record_text = rows ("{\"e9\":{\"cv\":{\"1\":12,\"8\":8},\"name\":\"Mail\"},\"e7\":{\"name\":\"Tank 7\",\"cv\":{\"29\":6,\"1\":3},\"note\":\"sold\"}}" ∷ []);
}

unfoldable pub other_state : State
unfolding other_texts
other_state = after_opening initial other_texts

unfoldable pub other_acts : List Act
unfolding asked
other_acts = map (asked 200) (
    "GET;1" ∷
    "nonsense" ∷
    "LOGIN;ann;k1" ∷
    "LOGIN;cy;k3" ∷
    "LOGIN;bob;k2" ∷
    "PUSH;131073;$['e7']['note'];\"hidden\"" ∷
    "PUSH;1;$['e7']['cv']['29'];38" ∷
    "PUSH;1;$['e7']['cv']['30'];0" ∷
    "PUSH;65537;$['e7']['cv']['1'];4" ∷ []) ++
    save [] ∷ line (text "GET;65537") (replicate 200 1) [] ∷ []
