-- The part that is shown at the edges that document 01 names, computed. Assumes nothing.
use mathlib.Core.Path.{◌≡◌, refl}
use Rattle.view.specs.Part.{parameters, memory, nothing, part_of}

-- "with p and q both 32 it is the parameter words' end"
both-32 : part_of 32 992 32 32 ≡ parameters 32 32
unfolding part_of
both-32 = refl

all-parameters : part_of 32 992 0 32 ≡ parameters 0 32
unfolding part_of
all-parameters = refl

all-memory : part_of 32 992 32 1024 ≡ memory 0 992
unfolding part_of
all-memory = refl

memory-end : part_of 32 992 1024 1024 ≡ memory 992 992
unfolding part_of
memory-end = refl

past_the_end : part_of 32 992 1025 1025 ≡ nothing
unfolding part_of
past_the_end = refl

crossing-32 : part_of 32 992 31 33 ≡ nothing
unfolding part_of
crossing-32 = refl

reversed-at-32 : part_of 32 992 33 32 ≡ nothing
unfolding part_of
reversed-at-32 = refl

short-memory : part_of 32 991 0 32 ≡ nothing
unfolding part_of
short-memory = refl
