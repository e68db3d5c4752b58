mod BootSteps
