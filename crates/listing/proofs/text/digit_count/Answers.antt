use Rattle.std.proofs.Common.{sym, arith}
use Rattle.listing.proofs.Digits.{digits_one, digits_are}
use Rattle.listing.proofs.text.digit_count.Goals as goal

pub returns-in-0-to-9 : goal.returns-in-0-to-9
returns-in-0-to-9 c = record { count = sym (digits_one c.args.n (omega arith)); some = omega arith; few = omega arith }

pub returns-in-10-to-99 : goal.returns-in-10-to-99
returns-in-10-to-99 c = record { count = sym (digits_are 1 c.args.n (omega arith) (omega arith) c.ranges.n.fits); some = omega arith; few = omega arith }

pub returns-in-100-to-999 : goal.returns-in-100-to-999
returns-in-100-to-999 c = record { count = sym (digits_are 2 c.args.n (omega arith) (omega arith) c.ranges.n.fits); some = omega arith; few = omega arith }

pub returns-in-1000-to-9999 : goal.returns-in-1000-to-9999
returns-in-1000-to-9999 c = record { count = sym (digits_are 3 c.args.n (omega arith) (omega arith) c.ranges.n.fits); some = omega arith; few = omega arith }

pub returns-in-10000-to-99999 : goal.returns-in-10000-to-99999
returns-in-10000-to-99999 c = record { count = sym (digits_are 4 c.args.n (omega arith) (omega arith) c.ranges.n.fits); some = omega arith; few = omega arith }

pub returns-in-100000-to-999999 : goal.returns-in-100000-to-999999
returns-in-100000-to-999999 c = record { count = sym (digits_are 5 c.args.n (omega arith) (omega arith) c.ranges.n.fits); some = omega arith; few = omega arith }

pub returns-in-1000000-to-9999999 : goal.returns-in-1000000-to-9999999
returns-in-1000000-to-9999999 c = record { count = sym (digits_are 6 c.args.n (omega arith) (omega arith) c.ranges.n.fits); some = omega arith; few = omega arith }

pub returns-in-10000000-to-99999999 : goal.returns-in-10000000-to-99999999
returns-in-10000000-to-99999999 c = record { count = sym (digits_are 7 c.args.n (omega arith) (omega arith) c.ranges.n.fits); some = omega arith; few = omega arith }

pub returns-in-100000000-to-999999999 : goal.returns-in-100000000-to-999999999
returns-in-100000000-to-999999999 c = record { count = sym (digits_are 8 c.args.n (omega arith) (omega arith) c.ranges.n.fits); some = omega arith; few = omega arith }

pub returns-in_default : goal.returns-in_default
returns-in_default c = record { count = sym (digits_are 9 c.args.n (omega arith) (omega (arith, c.ranges.n.fits)) c.ranges.n.fits); some = omega arith; few = omega arith }
