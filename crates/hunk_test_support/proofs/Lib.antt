mod HeapSteps
mod RefusingSteps
