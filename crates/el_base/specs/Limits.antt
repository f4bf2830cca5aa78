-- The greatest sizes that are accepted, and how many items a `u32` can number.
use Rattle.std.specs.Prelude.{ℕ, ◌<◌, ◌^◌}
use Rattle.el_base.specs.declared.limits.TheConstants.{MAX_NODES, MAX_NESTING, MAX_DIMENSIONS, MAX_ELEMENTS, MAX_KERNEL_BYTES, MAX_INPUTS_BYTES, MAX_NETLIST_BYTES, MAX_SCHEDULE_BYTES, MAX_SLOTS, MAX_DELAY, MAX_SUM_OF_SLOTS, MAX_WAYS, MAX_DEPTH, MAX_FIRINGS, MAX_SHARED_FIRINGS, MAX_WORKERS}

-- the nodes of a kernel
abbrev pub max_nodes : ℕ
max_nodes = MAX_NODES

-- the constructs of a kernel text that a token belongs to
abbrev pub max_nesting : ℕ
max_nesting = MAX_NESTING

-- the dimensions of an array
abbrev pub max_dimensions : ℕ
max_dimensions = MAX_DIMENSIONS

-- the elements of all arrays of a kernel together
abbrev pub max_elements : ℕ
max_elements = MAX_ELEMENTS

-- a kernel file, an inputs file, a net text and a schedule, in bytes
abbrev pub max_kernel_bytes : ℕ
max_kernel_bytes = MAX_KERNEL_BYTES

abbrev pub max_inputs_bytes : ℕ
max_inputs_bytes = MAX_INPUTS_BYTES

abbrev pub max_netlist_bytes : ℕ
max_netlist_bytes = MAX_NETLIST_BYTES

abbrev pub max_schedule_bytes : ℕ
max_schedule_bytes = MAX_SCHEDULE_BYTES

-- the slots of a channel, and its delay in cycles
abbrev pub max_slots : ℕ
max_slots = MAX_SLOTS

abbrev pub max_delay : ℕ
max_delay = MAX_DELAY

-- the slots of all channels of a net
abbrev pub max_sum_of_slots : ℕ
max_sum_of_slots = MAX_SUM_OF_SLOTS

-- the outputs of a fork, and the data inputs of a mux or of a merge by a control token
abbrev pub max_ways : ℕ
max_ways = MAX_WAYS

-- the entries of a queue
abbrev pub max_depth : ℕ
max_depth = MAX_DEPTH

-- the firings of a run
abbrev pub max_firings : ℕ
max_firings = MAX_FIRINGS

-- the firings of a run whose list of firings is kept
abbrev pub max_shared_firings : ℕ
max_shared_firings = MAX_SHARED_FIRINGS

-- the workers that run a net
abbrev pub max_workers : ℕ
max_workers = MAX_WORKERS

-- so many items have each a number that a `u32` holds
abbrev pub IsNumbered : ℕ → Type 0
IsNumbered n = n < 2 ^ 32
