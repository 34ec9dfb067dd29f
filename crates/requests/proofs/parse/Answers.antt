use Prim.Native.Nat.{◌≤◌}
use mathlib.Core.Path.{◌≡◌, refl}
use mathlib.Core.List.{[], ◌∷◌}
use borrow.Author.Rules.{rules}
use lib.ListN.{length}
use Rattle.model.specs.Base.{Bytes}
use Rattle.model.specs.Limits.{max_line}
use Rattle.model.specs.Requests.{read_login, read_get, read_push, read_logout, readers, first_of, request_of}
use Rattle.requests.proofs.FirstOf.{first_reads, first-fails, last-reads, too_long_lem, short}
use Rattle.requests.proofs.ByPositions.{slot_same}
use Rattle.requests.proofs.parse.Goals.{In_default, In_default-get_line}
use Rattle.requests.proofs.parse.Goals as goal

-- The readers are tried in the model's order: the first request that one reads is the line's, and the ones before it read nothing.

-- a line that is no longer than a line may be is decided by the readers; and where the first reads nothing, by those behind it
by-readers : (line : Bytes)
    → length line ≤ max_line
    → first_of (read_login ∷ read_get ∷ read_push ∷ read_logout ∷ []) line ≡ request_of line
unfolding readers
by-readers line h = short line h

no-login : (c : In_default)
    → let line = c.args.line.now in
    first_of (read_get ∷ read_push ∷ read_logout ∷ []) line ≡ request_of line
no-login c = first-fails _ (by-readers _ c.if-line-gt-MAX_LINE.false) (c.in_default.ensures [])

no-get : (c : In_default-get_line)
    → let line = c.args.line.now in
    first_of (read_push ∷ read_logout ∷ []) line ≡ request_of line
no-get c = first-fails _ (first-fails _ (by-readers _ c.if-line-gt-MAX_LINE.false) (c.in_default.ensures [])) (c.in_default-get_line.ensures [])

pub returns-then-line-gt-MAX_LINE : goal.returns-then-line-gt-MAX_LINE
returns-then-line-gt-MAX_LINE c = record { reads_as = record { asks = too_long_lem _ (search rules); stands = tt }; slot_after = refl }

pub returns-in-Some : goal.returns-in-Some
returns-in-Some c =
    let login = c.in-Some.ensures in
    record { reads_as = first_reads _ (by-readers _ c.if-line-gt-MAX_LINE.false) (login _); slot_after = slot_same login refl }

pub returns-in-Some-get_line : goal.returns-in-Some-get_line
returns-in-Some-get_line c =
    let get = c.in-Some-get_line.ensures in
    record { reads_as = first_reads _ (no-login (goal.at.returns-in-Some-get_line c).In_default) (get _); slot_after = slot_same get refl }

pub returns-in-Some-push_line-clause-reads_as : goal.returns-in-Some-push_line-clause-reads_as
returns-in-Some-push_line-clause-reads_as c =
    first_reads _ (no-get (goal.at.returns-in-Some-push_line-clause-reads_as c).In_default-get_line) c.in-Some-push_line.ensures.reads_as

pub returns : goal.returns
returns c =
    let push = c.in_default-push_line.ensures in
    let left = first-fails _ (no-get (goal.at.returns c).In_default-get_line) push.reads_as in
    let logout = c.logout_line.ensures in
    record { reads_as = last-reads left (logout _); slot_after = slot_same logout push.slot_after }
