use Rattle.audit.proofs.WorkedPrints.{waits_summary, filled_summary, waits_storm, filled_storm, closed_link, open_link, cut_text, two_served}
use Rattle.audit.proofs.promises.worked_prints.Goals as goal

pub returns-clause-summary : goal.returns-clause-summary
returns-clause-summary c = waits_summary

pub returns-clause-filled : goal.returns-clause-filled
returns-clause-filled c = filled_summary

pub returns-clause-storm : goal.returns-clause-storm
returns-clause-storm c = waits_storm

pub returns-clause-storm_filled : goal.returns-clause-storm_filled
returns-clause-storm_filled c = filled_storm

pub returns-clause-link : goal.returns-clause-link
returns-clause-link c = closed_link

pub returns-clause-open_link : goal.returns-clause-open_link
returns-clause-open_link c = open_link

pub returns-clause-ended : goal.returns-clause-ended
returns-clause-ended c = cut_text

pub returns-clause-served : goal.returns-clause-served
returns-clause-served c = two_served
