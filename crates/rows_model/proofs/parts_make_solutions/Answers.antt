use Rattle.rows_model.proofs.OrbitCases.{parts_make_mean_elements, parts_make_positions, parts_make_roots}
use Rattle.rows_model.proofs.PartCases.{contacts_make_solutions, pairs_make_a_day, pairs_make_a_sun, positions_make_light}
use Rattle.rows_model.proofs.parts_make_solutions.Goals as goal

pub returns-clause-sun : goal.returns-clause-sun
returns-clause-sun c = pairs_make_a_sun

pub returns-clause-day : goal.returns-clause-day
returns-clause-day c = pairs_make_a_day

pub returns-clause-light : goal.returns-clause-light
returns-clause-light c = positions_make_light

pub returns-clause-contact : goal.returns-clause-contact
returns-clause-contact c = contacts_make_solutions

pub returns-clause-root : goal.returns-clause-root
returns-clause-root c = parts_make_roots

pub returns-clause-mean : goal.returns-clause-mean
returns-clause-mean c = parts_make_mean_elements

pub returns-clause-position : goal.returns-clause-position
returns-clause-position c = parts_make_positions
