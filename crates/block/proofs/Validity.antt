-- A message that passes is valid.
use Rattle.std.proofs.Common.{◌≡◌, ℕ, ◌<◌, ◌≤◌, true, ◌||◌, ◌&&◌, eqb, leb, get_or, None, arith, lit<}
use Rattle.std.proofs.lemmas.Bool.Decides.{nat_tests}
use Rattle.block.specs.declared.message.Destination.{Destination}
use Rattle.block.specs.declared.message.Destination.TheVariants.{All, Seat}
use Rattle.block.specs.declared.message.Value.{Value}
use Rattle.block.specs.declared.message.Value.TheVariants.{Nothing, Noop, Command}
use Rattle.block.specs.declared.message.Message.{Message}
use Rattle.block.specs.Messages.{to_word, value_number, asked_by, message_words}
use Rattle.block.specs.Ranges.{in_range}
use Rattle.block.specs.Fits.{identity_fits, fits}
use Rattle.block.specs.Verdicts.{range_fault, misfit_fault}
use Rattle.block.specs.Valid.{Reachable, Identified, Valid}
use Rattle.block.proofs.Lowest.{ranges_all, fits_all}
use Rattle.block.proofs.Messages.{kind_there}

reachable : (d : Destination) → (leb (to_word d) 6 || eqb (to_word d) 255) ≡ true → Reachable d
reachable All h = tt
reachable (Seat s) h = grind (arith, nat_tests)

identified : (v : Value) → identity_fits (value_number v) (asked_by v).identity.client ≡ true
    → identity_fits (value_number v) (asked_by v).identity.number ≡ true
    → Identified v
identified Nothing c n = tt
identified Noop c n = tt
identified (Command x) c n = (grind (arith, nat_tests), grind (arith, nat_tests))

at_most : (n k : ℕ) → leb n k ≡ true → n ≤ k
at_most n k h = grind (arith, nat_tests)

from_to : (l n k : ℕ) → (leb l n && leb n k) ≡ true → (l ≤ n) × (n ≤ k)
from_to l n k h = (grind (arith, nat_tests), grind (arith, nat_tests))

pub valid : (m : Message) → range_fault (message_words m) ≡ None → misfit_fault (message_words m) ≡ None → Valid m
unfolding message_words
valid m range fit =
    let at : (k : ℕ) → k < 15 → in_range k (get_or (message_words m) k 0) ≡ true = ranges_all (message_words m) range in
    let ok : (k : ℕ) → k < 15 → fits (message_words m) k ≡ true = fits_all (message_words m) fit in
    let entry = from_to 1 m.entry 128 (at 4 (lit< tt)) in
    record {
      from = at_most m.from 6 (at 1 (lit< tt));
      to = reachable m.to (at 2 (lit< tt));
      log = at_most m.log 1 (at 3 (lit< tt));
      entry_from_one = entry.0;
      entry_to_last = entry.1;
      ballot = at 5 (lit< tt);
      dependency = at_most m.dependency 128 (at 12 (lit< tt));
      accept_ballot = at 14 (lit< tt);
      fits_to = rw (kind_there m.kind) at (ok 2 (lit< tt));
      fits_ballot = rw (kind_there m.kind) at (ok 5 (lit< tt));
      fits_value = rw (kind_there m.kind) at (ok 6 (lit< tt));
      identified = identified m.value (ok 7 (lit< tt)) (ok 8 (lit< tt));
      fits_dependency = rw (kind_there m.kind) at (ok 12 (lit< tt));
      fits_report = rw (kind_there m.kind) at (ok 13 (lit< tt));
      fits_accept = ok 14 (lit< tt);
    }
