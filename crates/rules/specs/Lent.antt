-- The job of what is lent: the struct that the machine's functions pass on.
use Rattle.rules.specs.declared.Job.{Job as Lent}
use Rattle.rules.specs.State.{Job, job_of}

abbrev pub job_in : Lent → Job
job_in j = job_of j.image.now j.starts.now j.parameters.now j.allowance
