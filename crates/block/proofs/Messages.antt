-- A message and its words, both ways.
use Rattle.std.proofs.Common.{◌≡◌, ℕ, ◌<◌, true, ◌&&◌, ◌||◌, eqb, leb, List, map, length, get_or, None, sym, refl, arith, lit<}
use Rattle.std.specs.List.{range_with_len}
use Rattle.std.proofs.lemmas.List.FromFn.{fill_by_all}
use Rattle.std.proofs.lemmas.Bool.Decides.{nat_tests}
use Rattle.command.specs.declared.Command.{Command}
use Rattle.block.specs.declared.message.Kind.{Kind}
use Rattle.block.specs.declared.message.Kind.TheVariants.{FastAccept, FastAcceptOk, FastAcceptReply, Accept, AcceptOk, Commit, Prepare, PrepareOk, Reject}
use Rattle.block.specs.declared.message.Value.{Value}
use Rattle.block.specs.declared.message.Value.TheVariants.{Nothing, Noop}
use Rattle.block.specs.declared.message.Value.TheVariants as value
use Rattle.block.specs.declared.message.Report.{Report}
use Rattle.block.specs.declared.message.Report.TheVariants.{Empty, Vote, Accepted}
use Rattle.block.specs.declared.message.Destination.{Destination}
use Rattle.block.specs.declared.message.Destination.TheVariants.{All, Seat}
use Rattle.block.specs.declared.message.Message.{Message}
use Rattle.block.specs.Messages.{kind_number, kind_of, to_word, to_of, value_number, asked_by, value_of, report_number, accept_of, report_of, message_words, message_of}
use Rattle.block.specs.Ranges.{in_range}
use Rattle.block.specs.Fits.{identity_fits, request_fits, accept_fits, fits}
use Rattle.block.specs.Verdicts.{range_fault, misfit_fault}
use Rattle.block.proofs.Lowest.{ranges_all, fits_all}

pub kind_there : (k : Kind) → kind_of (kind_number k) ≡ k
kind_there FastAccept = refl
kind_there FastAcceptOk = refl
kind_there FastAcceptReply = refl
kind_there Accept = refl
kind_there AcceptOk = refl
kind_there Commit = refl
kind_there Prepare = refl
kind_there PrepareOk = refl
kind_there Reject = refl

kind_back : (n : ℕ) → (leb 1 n && leb n 9) ≡ true → kind_number (kind_of n) ≡ n
kind_back n h = grind (arith, nat_tests)

-- a destination in range is read back from its word
to_there : (d : Destination) → (leb (to_word d) 6 || eqb (to_word d) 255) ≡ true → to_of (to_word d) ≡ d
to_there All h = refl
to_there (Seat s) h = grind (arith, nat_tests)

to_back : (w : ℕ) → to_word (to_of w) ≡ w
to_back w = grind (arith, nat_tests)

value_there : (v : Value) → value_of (value_number v) (asked_by v) ≡ v
value_there Nothing = refl
value_there Noop = refl
value_there (value.Command c) = refl

report_there : (r : Report) → report_of (report_number r) (accept_of r) ≡ r
report_there Empty = refl
report_there Vote = refl
report_there (Accepted b) = refl

number_back : (k : ℕ) (c : Command) → leb k 2 ≡ true → value_number (value_of k c) ≡ k
number_back k c h = grind (arith, nat_tests)

-- words that fit their value kind are those of the command that they make
asked_back : (k : ℕ) (c : Command) → identity_fits k c.identity.client ≡ true → identity_fits k c.identity.number ≡ true
    → request_fits k c.operation ≡ true
    → request_fits k c.bay ≡ true
    → request_fits k c.amount ≡ true
    → asked_by (value_of k c) ≡ c
asked_back k c hc hn ho hb ha = grind (arith, nat_tests)

report_number_back : (r a : ℕ) → leb r 2 ≡ true → report_number (report_of r a) ≡ r
report_number_back r a h = grind (arith, nat_tests)

accept_back : (b r a : ℕ) → accept_fits b r a ≡ true → accept_of (report_of r a) ≡ a
accept_back b r a f = grind (arith, nat_tests)

-- the words of a message whose destination is in range make it again
pub message_there : (m : Message) → range_fault (message_words m) ≡ None → message_of (message_words m) ≡ m
unfolding message_of message_words
message_there m range =
    rw (
      kind_there m.kind,
      to_there m.to (ranges_all (message_words m) range 2 (lit< tt)),
      value_there m.value,
      report_there m.report,
    )

-- words that pass make a message that has those words
pub message_back : (ws : List ℕ) → length ws ≡ 15 → range_fault ws ≡ None → misfit_fault ws ≡ None
    → message_words (message_of ws) ≡ ws
unfolding message_of message_words
message_back ws n range fit =
    let at : (k : ℕ) → k < 15 → in_range k (get_or ws k 0) ≡ true = ranges_all ws range in
    let ok : (k : ℕ) → k < 15 → fits ws k ≡ true = fits_all ws fit in
    let all : ws ≡ map (λ k. get_or ws k 0) (range_with_len 0 15) = fill_by_all (λ k. get_or ws k 0) ws 15 0 n (λ k h. refl) in
    let c : Command =
    record {
      identity = record { client = get_or ws 7 0; number = get_or ws 8 0 };
      operation = get_or ws 9 0;
      bay = get_or ws 10 0;
      amount = get_or ws 11 0;
    } in
    rw (
      kind_back (get_or ws 0 0) (at 0 (lit< tt)),
      to_back (get_or ws 2 0),
      number_back (get_or ws 6 0) c (at 6 (lit< tt)),
      asked_back (get_or ws 6 0) c (ok 7 (lit< tt)) (ok 8 (lit< tt)) (ok 9 (lit< tt)) (ok 10 (lit< tt)) (ok 11 (lit< tt)),
      report_number_back (get_or ws 13 0) (get_or ws 14 0) (at 13 (lit< tt)),
      accept_back (get_or ws 5 0) (get_or ws 13 0) (get_or ws 14 0) (ok 14 (lit< tt)),
    )
    (sym all)

pub length_message : (m : Message) → length (message_words m) ≡ 15
unfolding message_words
length_message m = refl
