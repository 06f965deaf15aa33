-- A takeover's ballot is the card's own, above the promise, and the smallest such.
use Rattle.std.proofs.Common.{rules}
use Rattle.group.specs.Ballots.{BallotsRise}

pub ballots_rise : BallotsRise
ballots_rise seat promised ballot next = search rules
