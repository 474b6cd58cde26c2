use Rattle.image.proofs.Rising.{records_rise}
use Rattle.image.proofs.RoundTrips.{round_trip}
use Rattle.image.proofs.laws.round_trips.Goals as goal

pub returns-clause-trips : goal.returns-clause-trips
returns-clause-trips c = round_trip

pub returns-clause-rise : goal.returns-clause-rise
returns-clause-rise c = records_rise
