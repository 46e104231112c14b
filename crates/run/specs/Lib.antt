-- In reading order: what a run gives of its machine; what it gives; and what `run` promises: that, and the demands of it.
pub mod Machine
pub mod Run
pub mod Promise
