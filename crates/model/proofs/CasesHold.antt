-- Document 01's worked cases, and some of document 02's requests, by computation from the definitions alone; specs/Cases has their texts and runs.
use Rattle.std.specs.Prelude.{ℕ, ◌≡◌, refl, [], ◌∷◌, ◌++◌, map, true, pos}
use Rattle.model.specs.Base.{text, all}
use Rattle.model.specs.Values.{whole}
use Rattle.model.specs.Serving.{index_in, count_in, refusal, session, length_is, accepted}
use Rattle.model.specs.Runs.{events, only, sequence, own, others, got, answer, copy, delivery}
use Rattle.model.specs.Program.{serve}
use Rattle.model.specs.Program
use Rattle.model.specs.Cases.{rows, club_texts, club_input, bobs_copy, club_output, guest_texts, guest_input, asked, club_state, passes, cases, further_cases, workshop_texts, almost_all, leaving_acts, club_acts, other_state, other_acts}

-- ── "One afternoon in the hall" ──
pub afternoon : serve club_texts (rows club_input) ≡ rows (club_output ++ bobs_copy)
unfolding Program.Opened rows club_texts club_input club_output bobs_copy
afternoon = refl

-- ── "Wrong programs that look sound" ──
-- "A policy path that runs past a value and still matches"
pub past_value : serve (guest_texts "$.*.b" "{\"a\":0,\"r\":{\"b\":true}}") guest_input ≡
    rows ("OK;1" ∷ "OK;66" ∷ "role;access;path" ∷ "guest;READ;$[*]['b']" ∷ "name;value" ∷ "{\"r\":{\"b\":true}}" ∷ [])
unfolding Program.Opened rows guest_texts guest_input
past_value = refl

-- "A right to an object taken as a right to what is in it"
pub inside_object : serve (guest_texts "$.r" "{\"a\":0,\"r\":{\"b\":true}}") guest_input ≡
    rows ("OK;1" ∷ "OK;49" ∷ "role;access;path" ∷ "guest;READ;$['r']" ∷ "name;value" ∷ "{}" ∷ [])
unfolding Program.Opened rows guest_texts guest_input
inside_object = refl

-- ── P1 to P10, and the further cases: entries of a list, with one claim covering it ──
pub cases_hold : all passes cases ≡ true
unfolding Program.Opened cases passes
cases_hold = refl

pub further_hold : all passes further_cases ≡ true
unfolding Program.Opened further_cases passes
further_hold = refl

-- ── 02, 1: LOGOUT ──
-- ann logs in, out and in again; while she is out nothing reaches her, and her old number stays closed; what she created stays counted
pub handed_on : serve workshop_texts (rows (
    "LOGIN;ann;k1" ∷
    "LOGIN;bob;k2" ∷
    "PUSH;1;$['e9']['cv']['3'];10" ∷
    "LOGOUT;1" ∷
    "GET;1" ∷
    "PUSH;65537;$['e7']['cv']['29'];38" ∷
    "LOGIN;ann;k1" ∷
    "GET;1" ∷
    "PUSH;1;$['e7']['cv']['29'];39" ∷
    "LOGOUT;1" ∷
    "PUSH;65537;$['e7']['cv']['29'];40" ∷
    "PUSH;2;$['e9']['cv']['4'];10" ∷
    "LOGOUT;2;" ∷
    "LOGOUT;3" ∷
    "LOGOUT;131073" ∷ [])) ≡ rows (
    "OK;1" ∷
    "OK;65537" ∷
    "OK" ∷ "TO;65537;$['e9']['cv']['3'];10" ∷
    "OK" ∷
    "NO;14" ∷
    "OK" ∷
    "OK;2" ∷
    "NO;14" ∷
    "NO;14" ∷
    "NO;14" ∷
    "OK" ∷ "TO;2;$['e7']['cv']['29'];40" ∷
    "NO;17" ∷
    "NO;11" ∷
    "NO;14" ∷
    "NO;14" ∷ [])
unfolding Program.Opened rows club_texts workshop_texts
handed_on = refl

-- "LOGIN gives 18, last, when the user has had 65,535 logins"
pub last_login : map (λ e. e.result.answer) (events almost_all (map (asked 0) (
    "LOGIN;cy;k3" ∷
    "LOGIN;cy;k3" ∷
    "LOGOUT;196607" ∷
    "LOGIN;cy;k1" ∷
    "LOGIN;cy;k3" ∷ []))) ≡ session 196607 ∷ refusal 13 ∷ accepted ∷ refusal 12 ∷ refusal 18 ∷ []
unfolding Program.Opened asked almost_all
last_login = refl

-- the place and the count of a number (02, 3): the first and the last of a place, the first of the next, ann's, the last of the last place, the one behind it, and the last
-- that a line may carry
pub numbers_divide : map {B = ℕ × ℕ} (λ n. (index_in n, count_in n)) (0 ∷ 65535 ∷ 65536 ∷ 1 ∷ 2097151 ∷ 2097152 ∷ 4294967295 ∷ []) ≡
    (0, 0) ∷ (0, 65535) ∷ (1, 0) ∷ (0, 1) ∷ (31, 65535) ∷ (32, 0) ∷ (65535, 65535) ∷ []
unfolding Program.Opened
numbers_divide = refl

-- ann's number is open; those of her place with another count and those of another place with her count are not, though 2,097,153 is hers by a place taken modulo 32; nor is
-- the last that a line may carry, and the one behind it is no number
pub only_hers : map (λ e. e.result.answer) (events club_state (map (asked 0) (
    "LOGIN;ann;k1" ∷
    "LOGOUT;0" ∷
    "LOGOUT;2" ∷
    "LOGOUT;32769" ∷
    "LOGOUT;65537" ∷
    "LOGOUT;2097153" ∷
    "LOGOUT;4294901761" ∷
    "LOGOUT;4294967295" ∷
    "LOGOUT;4294967296" ∷
    "LOGOUT;1" ∷ []))) ≡
    session 1 ∷ refusal 14 ∷ refusal 14 ∷ refusal 14 ∷ refusal 14 ∷ refusal 14 ∷ refusal 14 ∷ refusal 14 ∷ refusal 11 ∷ accepted ∷ []
unfolding Program.Opened asked club_state
only_hers = refl

pub bob_leaves : sequence (only 1) (events club_state leaving_acts) ≡
    own (text "LOGIN;bob;k2") 0 ∷ own (text "LOGOUT;65537") 0 ∷ own (text "LOGOUT;65537") 0 ∷ own (text "LOGIN;bob;k2") 0 ∷ []
unfolding Program.Opened club_state leaving_acts
bob_leaves = refl

pub bob_is_answered : got (only 1) (events club_state leaving_acts) ≡
    answer 1 (session 65537) ∷ answer 1 accepted ∷ answer 1 (refusal 14) ∷ answer 1 (session 65538) ∷ []
unfolding Program.Opened club_state leaving_acts
bob_is_answered = refl

-- ── What bob sends and gets in the afternoon ──
pub bobs_sequence : sequence (only 1) (events club_state club_acts) ≡
    own (text "LOGIN;bob;k2") 0 ∷
    others (text "e7" ∷ text "cv" ∷ text "29" ∷ []) (whole (pos 38)) ∷
    own (text "PUSH;65537;$['e7']['cv']['1'];4") 32 ∷
    own (text "GET;65537") 200 ∷ []
unfolding Program.Opened club_state club_acts
bobs_sequence = refl

pub bob_gets : got (only 1) (events club_state club_acts) ≡
    answer 1 (session 65537) ∷
    delivery 1 (text "TO;65537;$['e7']['cv']['29'];38") ∷
    answer 1 (refusal 16) ∷
    answer 1 (length_is 167) ∷
    copy 1 (rows bobs_copy) ∷ []
unfolding Program.Opened club_state club_acts rows bobs_copy
bob_gets = refl

-- ── Another run that bob cannot tell from it: another note and one field more at the start, other acts of the others ──
pub bobs_sequence_too : sequence (only 1) (events other_state other_acts) ≡
    own (text "LOGIN;bob;k2") 0 ∷
    others (text "e7" ∷ text "cv" ∷ text "29" ∷ []) (whole (pos 38)) ∷
    own (text "PUSH;65537;$['e7']['cv']['1'];4") 32 ∷
    own (text "GET;65537") 200 ∷ []
unfolding Program.Opened other_state other_acts
bobs_sequence_too = refl

pub bob_gets_too : got (only 1) (events other_state other_acts) ≡
    answer 1 (session 65537) ∷
    delivery 1 (text "TO;65537;$['e7']['cv']['29'];38") ∷
    answer 1 (refusal 16) ∷
    answer 1 (length_is 167) ∷
    copy 1 (rows bobs_copy) ∷ []
unfolding Program.Opened other_state other_acts rows bobs_copy
bob_gets_too = refl
